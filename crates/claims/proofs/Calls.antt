-- A call by the list alone: what an accepted one did (its element has no fault and stands in its place), and the numbers of a refused one. Assumes nothing.
use mathlib.Core.Path.{◌≡◌, refl, sym, ap, ◌∙◌}
use mathlib.Core.Bool.{Bool, true, false, cond, ◌&&◌, ◌||◌}
use mathlib.Core.Logic.{⊎_elim}
use mathlib.Core.List.{List, [], ◌∷◌}
use Prim.Native.Nat.{ℕ, zero, suc, ◌-◌}
use lib.Dec.{eqb, ltb}
use lib.ListN.{length, set}
use Rattle.process_list.specs.declared.Unfit.TheVariants.{NoNode, TooManyNodes, DepthDiffers, IdSeen, TooManyNumbers}
use Rattle.std.proofs.Common.{Ok, Err}
use Rattle.process_list.specs.List.{Verdict, Element, verdict}
use Rattle.valid.specs.Valid.{every, sound}
use Rattle.valid.proofs.Readings.{every-cons, every_made}
use Rattle.grammar.specs.Parse.{Out, done, fault, cut}
use Rattle.grammar.specs.Grammar.{judge}
use Rattle.grammar.specs.Laws.{nope}
use Rattle.clf.specs.Nodes.{node_fault}
use Rattle.clf.specs.Reading.{most_bytes, is_numbered}
use Rattle.look.specs.Replacing.{start, element, Replacing, replaced, refused, replacing_by, listed, by_element, replace, Call, is_late, kept_at, call}
use Rattle.claims.specs.Refusals.{is_text_fault, is_list_fault}
use Rattle.claims.proofs.Refusals.{element-faults}
use Rattle.claims.proofs.Always.{Holds, holds_then}
use Rattle.claims.proofs.Accepted.{SoundNode, node-holds}
use Rattle.claims.proofs.Rules.{WholeElements}

-- the call c by the list es, of which these numbers are kept, was accepted, and left these elements
pub record Put (room : ℕ) (kept : List ℕ) (es : List Element) (c : Call) (new : List Element) : Type 0 where
  pub there : is_numbered c.node (length es) ≡ true
  pub newer : is_late (kept_at kept c.node) c.numbering ≡ false
  pub short : ltb most_bytes (length c.element) ≡ false
  pub value : Element
  pub parsed : element.run c.element ≡ done value []
  pub is : new ≡ set es (c.node - 1) value
  pub fits : verdict room (set es (c.node - 1) value) ≡ Ok tt

verdict-put : (es : List Element) (v : Verdict) (new : List Element) → replacing_by es v ≡ replaced new → (new ≡ es) × (v ≡ Ok tt)
verdict-put es (Ok u) new e = (cc, refl)
verdict-put es (Err why) new e = nope cc

module _ (room : ℕ) (kept : List ℕ) (es : List Element) (c : Call) where
  abbrev tested : Bool → Bool → Bool → Replacing
  tested v y x = cond (y && v) (refused 28 0) (cond v (cond x (refused 4 0) (by_element room es c.node c.element (element.run c.element))) (refused 19 0))

  module _ (new : List Element) where
    element-put : is_numbered c.node (length es) ≡ true → is_late (kept_at kept c.node) c.numbering ≡ false → ltb most_bytes (length c.element) ≡ false
        → (o : Out Element) → element.run c.element ≡ o → by_element room es c.node c.element o ≡ replaced new → Put room kept es c new
    unfolding listed
    element-put t l m (done n []) q e =
        let p = verdict-put (set es (c.node - 1) n) (verdict room (set es (c.node - 1) n)) new e in
        record { there = t; newer = l; short = m; value = n; parsed = q; is = p.0; fits = p.1 }
    element-put t l m (done n (b ∷ r)) q e = nope cc
    element-put t l m (fault j r) q e = nope cc
    element-put t l m cut q e = nope cc

    tested-put : (v y x : Bool) → is_numbered c.node (length es) ≡ v → is_late (kept_at kept c.node) c.numbering ≡ y → ltb most_bytes (length c.element) ≡ x
        → tested v y x ≡ replaced new → Put room kept es c new
    tested-put true true x a b d e = nope cc
    tested-put true false true a b d e = nope cc
    tested-put true false false a b d e = element-put a b d (element.run c.element) refl e
    tested-put false true x a b d e = nope cc
    tested-put false false x a b d e = nope cc

    pub accepted-put : call room kept es c ≡ replaced new → Put room kept es c new
    unfolding call replace
    accepted-put e = tested-put (is_numbered c.node (length es)) (is_late (kept_at kept c.node) c.numbering) (ltb most_bytes (length c.element)) refl refl refl e

  -- and the other way
  pub put-accepted : (new : List Element) → Put room kept es c new → call room kept es c ≡ replaced new
  unfolding call replace listed
  put-accepted new p =
      let n : List Element = set es (c.node - 1) p.value in
      ap (λ (v : Bool). tested v (is_late (kept_at kept c.node) c.numbering) (ltb most_bytes (length c.element))) p.there
      ∙ ap (λ (y : Bool). tested true y (ltb most_bytes (length c.element))) p.newer
      ∙ ap (λ (x : Bool). tested true false x) p.short
      ∙ ap (by_element room es c.node c.element) p.parsed
      ∙ ap (replacing_by n) p.fits
      ∙ ap replaced (sym p.is)

  -- a late call is 28
  pub late-refused : is_numbered c.node (length es) ≡ true → is_late (kept_at kept c.node) c.numbering ≡ true → call room kept es c ≡ refused 28 0
  unfolding call
  late-refused t l = rw (t, l) refl

-- ---- an element without fault keeps its node's rules

element-holds : Holds SoundNode element
unfolding element
element-holds = holds_then (judge node_fault start) node-holds

pub element-sound : (e : List ℕ) (n : Element) (r : List ℕ) → element.run e ≡ done n r → sound n ≡ true
element-sound e n r q = element-holds.value e n r q

pub every_set : (es : List Element) (k : ℕ) (n : Element) → every sound es ≡ true → sound n ≡ true → every sound (set es k n) ≡ true
every_set [] k n h i = h
every_set (x ∷ es) zero n h i = every_made sound n es i (every-cons sound x es h).1
every_set (x ∷ es) (suc k) n h i = let p = every-cons sound x es h in every_made sound x (set es k n) p.0 (every_set es k n p.1 i)

-- so the elements that an accepted call leaves are those of some accepted list
pub put_whole : (room : ℕ) (kept : List ℕ) (es : List Element) (c : Call) (new : List Element) → WholeElements room es → Put room kept es c new → WholeElements room new
put_whole room kept es c new w p =
    record {
      sounds = ap (every sound) p.is ∙ every_set es (c.node - 1) p.value w.sounds (element-sound c.element p.value [] p.parsed);
      fits = ap (verdict room) p.is ∙ p.fits;
    }

-- ---- the numbers of a refused call

-- what an unnumbered call by the list alone can be refused with, and a call of either kind: never 0, and never 16, which is judged before
abbrev pub is_replace_fault : ℕ → Bool
is_replace_fault n = is_text_fault n || (is_list_fault n || (eqb n 1 || (eqb n 4 || (eqb n 19 || eqb n 20))))

abbrev pub is_call_fault : ℕ → Bool
is_call_fault n = eqb n 28 || is_replace_fault n

verdict-number : (es : List Element) (v : Verdict) (n p : ℕ) → replacing_by es v ≡ refused n p → is_replace_fault n ≡ true
verdict-number es (Ok u) n p e = nope cc
verdict-number es (Err NoNode) n p e = let q : 12 ≡ n = cc in rw (← q) refl
verdict-number es (Err TooManyNodes) n p e = let q : 11 ≡ n = cc in rw (← q) refl
verdict-number es (Err (DepthDiffers k)) n p e = let q : 10 ≡ n = cc in rw (← q) refl
verdict-number es (Err (IdSeen k)) n p e = let q : 23 ≡ n = cc in rw (← q) refl
verdict-number es (Err TooManyNumbers) n p e = let q : 13 ≡ n = cc in rw (← q) refl

module _ (room : ℕ) (es : List Element) (k : ℕ) (e : List ℕ) (n p : ℕ) where
  element-number : (o : Out Element) → element.run e ≡ o → by_element room es k e o ≡ refused n p → is_replace_fault n ≡ true
  unfolding listed
  element-number (done v []) q z = verdict-number (set es (k - 1) v) (verdict room (set es (k - 1) v)) n p z
  element-number (done v (b ∷ r)) q z = let y : 20 ≡ n = cc in rw (← y) refl
  element-number (fault j r) q z =
      let y : j ≡ n = cc in
      ⊎_elim (λ (t : is_text_fault j ≡ true). let h : is_text_fault n ≡ true = ap is_text_fault (sym y) ∙ t in rw h refl) (λ (t : j ≡ 20). let h : 20 ≡ n = sym t ∙ y in rw (← h) refl)
      (element-faults e j r q)
  element-number cut q z = let y : 1 ≡ n = cc in rw (← y) refl

  pub replace-number : replace room es k e ≡ refused n p → is_replace_fault n ≡ true
  unfolding replace
  replace-number = by (is_numbered k (length es)) (ltb most_bytes (length e))
    where
      by : (v x : Bool) → cond v (cond x (refused 4 0) (by_element room es k e (element.run e))) (refused 19 0) ≡ refused n p → is_replace_fault n ≡ true
      by true true z = let y : 4 ≡ n = cc in rw (← y) refl
      by true false z = element-number (element.run e) refl z
      by false x z = let y : 19 ≡ n = cc in rw (← y) refl

pub call-number : (room : ℕ) (kept : List ℕ) (es : List Element) (c : Call) (n p : ℕ) → call room kept es c ≡ refused n p → is_call_fault n ≡ true
unfolding call
call-number room kept es c n p = by (is_late (kept_at kept c.node) c.numbering && is_numbered c.node (length es))
  where
    or-true : (a b : Bool) → b ≡ true → (a || b) ≡ true
    or-true true b h = refl
    or-true false b h = h

    by : (b : Bool) → cond b (refused 28 0) (replace room es c.node c.element) ≡ refused n p → is_call_fault n ≡ true
    by true z = let y : 28 ≡ n = cc in rw (← y) refl
    by false z = or-true (eqb n 28) (is_replace_fault n) (replace-number room es c.node c.element n p z)
