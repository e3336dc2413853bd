-- DEMAND 3: over any run of calls, refused ones included, replacing by the list alone answers as reading the tried files does. Assumes nothing.
use mathlib.Core.Path.{◌≡◌, refl, sym, ap, ◌∙◌, subst}
use mathlib.Core.Bool.{Bool, true, false, cond, ◌&&◌}
use mathlib.Core.List.{List, [], ◌∷◌}
use Prim.Native.Nat.{ℕ, ◌+◌, ◌-◌, ◌≤◌, ◌<◌}
use native.Mathlib.Omega.{arith}
use lib.Dec.{eqb, leb, ltb}
use lib.ListN.{length, set}
use borrow.Author.Tests.{eqb-true, eqb-false, ltb-true, leb-true, le-ltb}
use Rattle.process_list.specs.declared.Unfit.TheVariants.{NoNode, TooManyNodes, DepthDiffers, IdSeen, TooManyNumbers}
use Rattle.std.proofs.Common.{Ok, Err}
use Rattle.process_list.specs.List.{Verdict, Element, verdict}
use Rattle.grammar.specs.Parse.{Out, done, fault, cut}
use Rattle.clf.specs.Places.{node_span}
use Rattle.clf.specs.Reading.{Reading, accepted, faulty, unfit, most_bytes, place_in, is_numbered, list_reading, read_text, read}
use Rattle.clf.specs.Reading as R
use Rattle.look.specs.Replacing.{element, Replacing, replaced, refused, replacing_by, listed, by_element, replace, list_after}
use Rattle.look.specs.Replacing.{Call, is_late, kept_at, call, kept_after}
use Rattle.claims.specs.TriedFile.{as_replacing, spliced, Attempt, answers, tries, trying, attempt_element, attempt, answered_by, by_attempt}
use Rattle.claims.specs.TriedFile.{FileState, file_call, NodeState, nodes_after, list_run, NotBefore, InElement, SmallAttempt, Small, SameRun}
use Rattle.claims.proofs.Sound.{and-true}
use Rattle.claims.proofs.Spliced.{Opened, opened, spliced-done, spliced-fault}
use Rattle.claims.proofs.Rules.{Short, read_short}

-- a call by the file x, and the same call by the list y: one answer, and the file after it is read as the list after it
pub record Agree (room : ℕ) (x : Replacing × List ℕ) (y : Replacing × List Element) : Type 0 where
  pub answer : x.0 ≡ y.0
  pub l : List Element
  pub reads : read_text room x.1 ≡ accepted l
  pub same : l ≡ y.1

module _ (room : ℕ) (s : List ℕ) (l : List Element) (old : read_text room s ≡ accepted l) where
  -- what is refused changes neither
  stays : (a : Replacing) (n p : ℕ) → a ≡ refused n p → Agree room (a, s) (refused n p, l)
  stays a n p q = record { answer = q; l = l; reads = old; same = refl }

  -- the list with the new node, judged
  by-verdict : (at : ℕ) (t : List ℕ) (m : List Element) (v : Verdict) → read_text room t ≡ R.reading_by m v
      → Agree room (answered_by at s t (R.reading_by m v)) (replacing_by m v, list_after l (replacing_by m v))
  by-verdict at t m (Ok u) q = record { answer = refl; l = m; reads = q; same = refl }
  by-verdict at t m (Err NoNode) q = stays (refused 12 0) 12 0 refl
  by-verdict at t m (Err TooManyNodes) q = stays (refused 11 33) 11 33 refl
  by-verdict at t m (Err (DepthDiffers k)) q = stays (refused 10 k) 10 k refl
  by-verdict at t m (Err (IdSeen k)) q = stays (refused 23 k) 23 k refl
  by-verdict at t m (Err TooManyNumbers) q = stays (refused 13 0) 13 0 refl

  by-list : (at : ℕ) (t : List ℕ) (m : List Element) → read_text room t ≡ list_reading room m
      → Agree room (answered_by at s t (read_text room t)) (listed room m, list_after l (listed room m))
  unfolding list_reading listed
  by-list at t m q =
      let v : Verdict = verdict room m in
      subst (λ (x : Reading). Agree room (answered_by at s t x) (replacing_by m v, list_after l (replacing_by m v))) (sym q) (by-verdict at t m v q)

  module _ (k : ℕ) (e : List ℕ) (there : k - 1 < length l) where
    abbrev w : ℕ × ℕ
    w = node_span s (k - 1)

    at-fault : (j : ℕ) (r : List ℕ) → element.run e ≡ fault j r → (j ≡ 20 → ⊥)
        → Agree room (answered_by w.0 s (spliced s w e) (read_text room (spliced s w e))) (refused j (place_in e r), l)
    at-fault j r q n =
        let f = spliced-fault room s l (k - 1) old there e j r q n in
        let g : w.0 + place_in e r - w.0 ≡ place_in e r = omega arith in
        subst (λ (x : Reading). Agree room (answered_by w.0 s (spliced s w e) x) (refused j (place_in e r), l)) (sym f)
        (stays (refused j (w.0 + place_in e r - w.0)) j (place_in e r) (ap (refused j) g))

    by_number : (j : ℕ) (r : List ℕ) → element.run e ≡ fault j r → (v : Bool) → eqb j 20 ≡ v
        → Agree room (by_attempt (read_text room) s (cond v (answers (refused 20 (place_in e r))) (trying s w e))) (refused j (place_in e r), l)
    by_number j r q true z = stays (refused 20 (place_in e r)) j (place_in e r) (ap (λ (i : ℕ). refused i (place_in e r)) (sym (eqb-true j 20 z)))
    by_number j r q false z = at-fault j r q (eqb-false j 20 z)

    by-element : (o : Out Element) → element.run e ≡ o
        → Agree room (by_attempt (read_text room) s (attempt_element s w e o)) (by_element room l k e o, list_after l (by_element room l k e o))
    by-element cut q = stays (refused 1 (length e)) 1 (length e) refl
    by-element (fault j r) q = by_number j r q (eqb j 20) refl
    by-element (done m []) q =
        by-list w.0 (spliced s w e) (set l (k - 1) m) (spliced-done room s l (k - 1) old there e m q)
    by-element (done m (b ∷ r)) q = stays (refused 20 (place_in e (b ∷ r))) 20 (place_in e (b ∷ r)) refl

  numbered : (k : ℕ) → is_numbered k (length l) ≡ true → k - 1 < length l
  numbered k h =
      let a = and-true (ltb 0 k) (leb k (length l)) h in
      omega (arith, ltb-true 0 k a.0, leb-true k (length l) a.1)

  -- 19, 28 and 4 try no file
  module _ (c : Call) where
    abbrev parsed : Out Element
    parsed = element.run c.element

    abbrev attempted : Bool → Bool → Bool → Attempt
    attempted v y x = cond v (cond y (answers (refused 28 0)) (cond x (answers (refused 4 0)) (attempt_element s (node_span s (c.node - 1)) c.element parsed))) (answers (refused 19 0))

    abbrev answered : Bool → Bool → Bool → Replacing
    answered v y x = cond (y && v) (refused 28 0) (cond v (cond x (refused 4 0) (by_element room l c.node c.element parsed)) (refused 19 0))

    by_tests : (v y x : Bool) → is_numbered c.node (length l) ≡ v → Agree room (by_attempt (read_text room) s (attempted v y x)) (answered v y x, list_after l (answered v y x))
    by_tests true true x q = stays (refused 28 0) 28 0 refl
    by_tests true false true q = stays (refused 4 0) 4 0 refl
    by_tests true false false q = by-element c.node c.element (numbered c.node q) parsed refl
    by_tests false true x q = stays (refused 19 0) 19 0 refl
    by_tests false false x q = stays (refused 19 0) 19 0 refl

  -- ONE CALL, with these numbers kept
  pub one-call : (kept : List ℕ) (c : Call) → Agree room (by_attempt (read_text room) s (attempt s kept c)) (call room kept l c, list_after l (call room kept l c))
  unfolding attempt call replace
  one-call kept c =
      let o : Opened room s l = opened room s l old in
      let t = by_tests c (is_numbered c.node (length l)) (is_late (kept_at kept c.node) c.numbering) (ltb most_bytes (length c.element)) refl in
      rw (o.is, o.same) t

  -- ---- a fault of the tried file stands in the element

  list-in : (at : ℕ) (m : List Element) → NotBefore at (list_reading room m)
  unfolding list_reading
  list-in at m = go (verdict room m)
    where
      go : (v : Verdict) → NotBefore at (R.reading_by m v)
      go (Ok u) = tt
      go (Err why) = tt

  module _ (k : ℕ) (e : List ℕ) (there : k - 1 < length l) where
    fault-in : (j : ℕ) (r : List ℕ) → element.run e ≡ fault j r → (v : Bool) → eqb j 20 ≡ v
        → InElement (read_text room) (cond v (answers (refused 20 (place_in e r))) (trying s (node_span s (k - 1)) e))
    fault-in j r q true z = tt
    fault-in j r q false z =
        subst (NotBefore (node_span s (k - 1)).0) (sym (spliced-fault room s l (k - 1) old there e j r q (eqb-false j 20 z)))
        (let h : (node_span s (k - 1)).0 ≤ (node_span s (k - 1)).0 + place_in e r = omega arith in h)

    element-in : (o : Out Element) → element.run e ≡ o → InElement (read_text room) (attempt_element s (node_span s (k - 1)) e o)
    element-in cut q = tt
    element-in (fault j r) q = fault-in j r q (eqb j 20) refl
    element-in (done m []) q =
        subst (NotBefore (node_span s (k - 1)).0) (sym (spliced-done room s l (k - 1) old there e m q)) (list-in (node_span s (k - 1)).0 (set l (k - 1) m))
    element-in (done m (b ∷ r)) q = tt

  tests-in : (c : Call) (v y x : Bool) → is_numbered c.node (length l) ≡ v → InElement (read_text room) (attempted c v y x)
  tests-in c true true x q = tt
  tests-in c true false true q = tt
  tests-in c true false false q = element-in c.node c.element (numbered c.node q) (parsed c) refl
  tests-in c false y x q = tt

  pub call-in : (kept : List ℕ) (c : Call) → InElement (read_text room) (attempt s kept c)
  unfolding attempt
  call-in kept c =
      let o : Opened room s l = opened room s l old in
      rw (o.is, o.same) (tests-in c (is_numbered c.node (length l)) (is_late (kept_at kept c.node) c.numbering) (ltb most_bytes (length c.element)) refl)

-- ---- runs

-- a file of at most 16 MiB is read as if there were no limit
pub read_small : (room : ℕ) (t : List ℕ) → length t ≤ most_bytes → read room t ≡ read_text room t
unfolding read
read_small room t h = rw (le-ltb most_bytes (length t) h)

pub call-small : (room : ℕ) (s : List ℕ) (a : Attempt) → SmallAttempt a → by_attempt (read room) s a ≡ by_attempt (read_text room) s a
call-small room s (answers a) h = refl
call-small room s (tries at t) h = ap (answered_by at s t) (read_small room t h)

pub in_small : (room : ℕ) (a : Attempt) → SmallAttempt a → InElement (read_text room) a → InElement (read room) a
in_small room (answers a) h i = tt
in_small room (tries at t) h i = subst (NotBefore at) (sym (read_small room t h)) i

settled-small : (at : ℕ) (s t : List ℕ) (r : Reading) → length s ≤ most_bytes → length t ≤ most_bytes → length (answered_by at s t r).1 ≤ most_bytes
settled-small at s t (accepted l) h k = k
settled-small at s t (faulty n p) h k = h
settled-small at s t (unfit n p) h k = h

pub stays-small : (room : ℕ) (s : List ℕ) (a : Attempt) → length s ≤ most_bytes → SmallAttempt a → length (by_attempt (read room) s a).1 ≤ most_bytes
stays-small room s (answers a) h k = h
stays-small room s (tries at t) h k = settled-small at s t (read room t) h k

-- the file f is read as the elements l
pub runs : (room : ℕ) (calls : List Call) (f : FileState) (l : List Element) → length f.file ≤ most_bytes → read_text room f.file ≡ accepted l → Small (read room) f calls
    → SameRun room (read room) f l calls
runs room [] f l h old k = record { answers = refl; list = ap as_replacing (read_small room f.file h ∙ old); kept = refl; places = tt }
runs room (c ∷ calls) f l h old k =
    let t : Attempt = attempt f.file f.kept c in
    let a : Replacing = call room f.kept l c in
    let e : by_attempt (read room) f.file t ≡ by_attempt (read_text room) f.file t = call-small room f.file t k.0 in
    let g : Agree room (by_attempt (read room) f.file t) (a, list_after l a) =
    subst (λ (x : Replacing × List ℕ). Agree room x (a, list_after l a)) (sym e) (one-call room f.file l old f.kept c) in
    let n : FileState = (file_call (read room) f c).1 in
    let i : SameRun room (read room) n g.l calls = runs room calls n g.l (stays-small room f.file t h k.0) g.reads k.1 in
    let q : ◌≡◌ {A = NodeState} (record { elements = g.l; kept = n.kept }) (nodes_after (record { elements = l; kept = f.kept }) c a) =
    λ j. record { elements = g.same j; kept = kept_after f.kept c (g.answer j) } in
    record {
      answers = λ j. g.answer j ∷ (i.answers ∙ ap (λ (z : NodeState). (list_run room z calls).0) q) j;
      list = i.list ∙ ap (λ (z : NodeState). replaced (list_run room z calls).1.elements) q;
      kept = i.kept ∙ ap (λ (z : NodeState). (list_run room z calls).1.kept) q;
      places = (in_small room t k.0 (call-in room f.file l old f.kept c), i.places);
    }

-- DEMAND 3: an accepted file, any calls, each file so tried at most 16 MiB
pub demand3 : (room : ℕ) (calls : List Call) (f : FileState) (l : List Element) → read room f.file ≡ accepted l → Small (read room) f calls → SameRun room (read room) f l calls
demand3 room calls f l e k = let r : Short room f.file l = read_short room f.file l e in runs room calls f l r.most r.text k
