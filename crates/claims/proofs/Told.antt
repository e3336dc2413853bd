-- 9 and 25 are told apart: where a reading or a call answers one of them, such a token stands at the place. Assumes nothing.
use mathlib.Core.Path.{◌≡◌, refl, sym, ap, ◌∙◌, subst}
use mathlib.Core.Bool.{Bool, true, false, cond, ◌&&◌}
use mathlib.Core.List.{List, [], ◌∷◌, ◌++◌, append_assoc, append-nil}
use mathlib.Core.Logic.{◌⊎◌, inl, inr}
use Prim.Native.Nat.{ℕ, ◌-◌}
use native.Mathlib.Omega.{arith}
use lib.Dec.{eqb, ltb}
use lib.ListN.{length, drop, set, length-append}
use lib.Seq.{drop-append_seam}
use Rattle.process_list.specs.declared.Unfit.TheVariants.{NoNode, TooManyNodes, DepthDiffers, IdSeen, TooManyNumbers}
use Rattle.std.proofs.Common.{Ok, Err}
use Rattle.process_list.specs.List.{Verdict, Element, verdict}
use Rattle.grammar.specs.Parse.{Out, done, fault, cut}
use Rattle.grammar.specs.Laws.{nope, StrongPrefix, cuts, faults, dones, follows-refl}
use Rattle.grammar.specs.Grammar.{G}
use Rattle.clf.specs.List.{Document, document, tail}
use Rattle.clf.specs.Reading.{Reading, accepted, faulty, unfit, most_bytes, reading_number, reading_place, nodes_among, place_in, reading_by, list_reading, tail_reading, text_reading, read_text, read, is_numbered}
use Rattle.look.specs.Replacing.{element, Replacing, refused, replacing_by, listed, by_element, replace, Call, is_late, kept_at, call}
use Rattle.claims.specs.Refusals.{is_list_fault, Answered, whole, short, text, list, ToldApart}
use Rattle.claims.specs.Theorems.{ReadingsToldApart, CallsToldApart}
use Rattle.claims.proofs.Blamed.{Textual, elsewhere}
use Rattle.claims.proofs.Tail.{Tailed, tail-law}
use Rattle.claims.proofs.Tail as T
use Rattle.claims.proofs.Refusals.{document-well, tail-well, element-well, answered}

-- ---- the bytes from a fault's place on

rest-there : (s c r : List ℕ) → s ≡ c ++ r → drop (place_in s r) s ≡ r
rest-there s c r e =
    let i : place_in s r ≡ length c = omega (arith, ap length e, length-append c r) in
    ap (λ (n : ℕ). drop n s) i ∙ ap (drop (length c)) e ∙ drop-append_seam c r

fault-rest : {A : Type 0} (p : G A) (s : List ℕ) (k : ℕ) (r : List ℕ) → p.run s ≡ fault k r → drop (place_in s r) s ≡ r
fault-rest p s k r q = go (p.law s)
  where
    go : StrongPrefix p.run s → drop (place_in s r) s ≡ r
    go (cuts e) = nope cc
    go (faults j c u e h) =
        let x : p.run s ≡ fault j u = ap p.run (sym (append-nil s)) ∙ h [] ∙ ap (fault j) (append-nil u) in
        let y : u ≡ r = cc in
        rest-there s c r (e ∙ ap (λ (l : List ℕ). c ++ l) y)
    go (dones a c u e h) = let x : p.run s ≡ done a u = ap p.run e ∙ h u (follows-refl u) in nope cc

-- a fault of the text, at its place in s
told_at : (s : List ℕ) (k : ℕ) (r : List ℕ) → drop (place_in s r) s ≡ r → Textual k r → ToldApart k (drop (place_in s r) s)
told_at s k r e t = subst (ToldApart k) (sym e) t.told

-- ---- reading

same-faulty : (s : List ℕ) (j i k p : ℕ) → faulty j i ≡ faulty k p → ToldApart j (drop i s) → ToldApart k (drop p s)
same-faulty s j i k p e t =
    let x : j ≡ k = cc in
    let y : i ≡ p = cc in
    subst (λ (m : ℕ). ToldApart k (drop m s)) y (subst (λ (m : ℕ). ToldApart m (drop i s)) x t)

-- a finished list is judged by other numbers
list-no-fault : (l : List Element) (v : Verdict) (k p : ℕ) → reading_by l v ≡ faulty k p → ⊥
list-no-fault l (Ok u) k p e = nope cc
list-no-fault l (Err why) k p e = nope cc

sound-list : (room : ℕ) (l : List Element) (k p : ℕ) → list_reading room l ≡ faulty k p → ⊥
unfolding list_reading
sound-list room l k p e = list-no-fault l (verdict room l) k p e

module _ (room : ℕ) (s c u : List ℕ) (d : Document) (e : s ≡ c ++ u) where
  tail-rest : (j : ℕ) (w : List ℕ) → tail u ≡ fault j w → Tailed u → drop (place_in s w) s ≡ w
  tail-rest j w q (T.short z) = nope cc
  tail-rest j w q (T.at_fault i a v z f) =
      let x : tail u ≡ fault i v = ap tail (sym (append-nil u)) ∙ f [] ∙ ap (fault i) (append-nil v) in
      let y : v ≡ w = cc in
      rest-there s (c ++ a) w (e ∙ ap (λ (l : List ℕ). c ++ l) (z ∙ ap (λ (l : List ℕ). a ++ l) y) ∙ sym (append_assoc c a w))
  tail-rest j w q (T.whole z f) = nope cc

  by-tail : (o : Out (Unit {0})) → tail u ≡ o → (k p : ℕ) → tail_reading room s d o ≡ faulty k p → ToldApart k (drop p s)
  by-tail (done a w) q k p z = absurd (sound-list room (nodes_among d.parts) k p z)
  by-tail (fault j w) q k p z = same-faulty s j (place_in s w) k p z (told_at s j w (tail-rest j w q (tail-law u)) (tail-well u j w q))
  by-tail cut q k p z = same-faulty s 1 (length s) k p z (elsewhere (eqb 1) refl refl 1 refl (drop (length s) s))

by-document : (room : ℕ) (s : List ℕ) (o : Out Document) → document.run s ≡ o → (k p : ℕ) → text_reading room s o ≡ faulty k p → ToldApart k (drop p s)
by-document room s (done d r) q k p z = go (document.law s)
  where
    go : StrongPrefix document.run s → ToldApart k (drop p s)
    go (cuts e) = nope cc
    go (faults j c u e h) = let x : document.run s ≡ fault j u = ap document.run (sym (append-nil s)) ∙ h [] ∙ ap (fault j) (append-nil u) in nope cc
    go (dones a c u e h) =
        let x : document.run s ≡ done a u = ap document.run e ∙ h u (follows-refl u) in
        let y : u ≡ r = cc in
        by-tail room s c r d (e ∙ ap (λ (l : List ℕ). c ++ l) y) (tail r) refl k p z
by-document room s (fault j r) q k p z = same-faulty s j (place_in s r) k p z (told_at s j r (fault-rest document s j r q) (document-well.number s j r q))
by-document room s cut q k p z = same-faulty s 1 (length s) k p z (elsewhere (eqb 1) refl refl 1 refl (drop (length s) s))

told_text : (room : ℕ) (s : List ℕ) (k p : ℕ) → read_text room s ≡ faulty k p → ToldApart k (drop p s)
unfolding read_text
told_text room s k p z = by-document room s (document.run s) refl k p z

pub told-reading : ReadingsToldApart
unfolding read
told-reading room s = go (ltb most_bytes (length s))
  where
    by : (x : Reading) → read_text room s ≡ x → Answered (length s) x → ToldApart (reading_number x) (drop (reading_place x) s)
    by (accepted l) e a = elsewhere (eqb 0) refl refl 0 refl (drop 0 s)
    by (faulty k p) e a = told_text room s k p e
    by (unfit k p) e (list j i h) = elsewhere is_list_fault refl refl k h (drop p s)

    go : (b : Bool) → ToldApart (reading_number (cond b (faulty 4 0) (read_text room s))) (drop (reading_place (cond b (faulty 4 0) (read_text room s))) s)
    go true = elsewhere (eqb 4) refl refl 4 refl (drop 0 s)
    go false = by (read_text room s) refl (answered room s)

-- ---- replacing

module _ (e : List ℕ) (n p : ℕ) where
  same-refused : (j i : ℕ) → refused j i ≡ refused n p → ToldApart j (drop i e) → ToldApart n (drop p e)
  same-refused j i z t =
      let x : j ≡ n = cc in
      let y : i ≡ p = cc in
      subst (λ (m : ℕ). ToldApart n (drop m e)) y (subst (λ (m : ℕ). ToldApart m (drop i e)) x t)

  -- a number that is neither 9 nor 25
  other-refused : (j i : ℕ) → refused j i ≡ refused n p → eqb j 9 ≡ false → eqb j 25 ≡ false → eqb j j ≡ true → ToldApart n (drop p e)
  other-refused j i z a b h = same-refused j i z (elsewhere (eqb j) a b j h (drop i e))

  by-verdict : (es : List Element) (v : Verdict) → replacing_by es v ≡ refused n p → ToldApart n (drop p e)
  by-verdict es (Ok u) z = nope cc
  by-verdict es (Err NoNode) z = other-refused 12 0 z refl refl refl
  by-verdict es (Err TooManyNodes) z = other-refused 11 33 z refl refl refl
  by-verdict es (Err (DepthDiffers i)) z = other-refused 10 i z refl refl refl
  by-verdict es (Err (IdSeen i)) z = other-refused 23 i z refl refl refl
  by-verdict es (Err TooManyNumbers) z = other-refused 13 0 z refl refl refl

  by-element : (room : ℕ) (es : List Element) (k : ℕ) (o : Out Element) → element.run e ≡ o → by_element room es k e o ≡ refused n p → ToldApart n (drop p e)
  unfolding listed
  by-element room es k (done v []) q z = by-verdict (set es (k - 1) v) (verdict room (set es (k - 1) v)) z
  by-element room es k (done v (b ∷ r)) q z = other-refused 20 (place_in e (b ∷ r)) z refl refl refl
  by-element room es k (fault j r) q z = go (element-well e j r q)
    where
      go : Textual j r ⊎ (j ≡ 20) → ToldApart n (drop p e)
      go (inl t) = same-refused j (place_in e r) z (told_at e j r (fault-rest element e j r q) t)
      go (inr y) = same-refused j (place_in e r) z (elsewhere (eqb 20) refl refl j (ap (eqb 20) y) (drop (place_in e r) e))
  by-element room es k cut q z = other-refused 1 (length e) z refl refl refl

  by-replace : (room : ℕ) (es : List Element) (k : ℕ) → replace room es k e ≡ refused n p → ToldApart n (drop p e)
  unfolding replace
  by-replace room es k = go (is_numbered k (length es)) (ltb most_bytes (length e))
    where
      go : (a b : Bool) → cond a (cond b (refused 4 0) (by_element room es k e (element.run e))) (refused 19 0) ≡ refused n p → ToldApart n (drop p e)
      go true true z = other-refused 4 0 z refl refl refl
      go true false z = by-element room es k (element.run e) refl z
      go false b z = other-refused 19 0 z refl refl refl

pub told-call : CallsToldApart
unfolding call
told-call room kept es c n p = go (is_late (kept_at kept c.node) c.numbering && is_numbered c.node (length es))
  where
    go : (b : Bool) → cond b (refused 28 0) (replace room es c.node c.element) ≡ refused n p → ToldApart n (drop p c.element)
    go true z = other-refused c.element n p 28 0 z refl refl refl
    go false z = by-replace c.element n p room es c.node z
