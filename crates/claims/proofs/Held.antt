-- What each element that holds elements is, by what holds from one of its parts to the next. Assumes nothing.
use mathlib.Core.Path.{◌≡◌, refl, sym, ap, ◌∙◌}
use mathlib.Core.Bool.{Bool, true, false, cond}
use mathlib.Core.List.{List, [], ◌∷◌}
use Prim.Native.Nat.{ℕ, ◌<◌}
use native.Mathlib.Omega.{arith}
use lib.Dec.{eqb}
use lib.ListN.{length}
use Rattle.grammar.specs.Parse.{Out, done, fault, cut, then_out, ret_p, span_p}
use Rattle.grammar.specs.Laws.{nope}
use Rattle.grammar.specs.Grammar.{G, ret, bad, look, judge, settle, eat, span, seq}
use Rattle.xml.specs.Bytes.{is_space, is_letter, is_name_byte, less_than, slash, exclamation, question, ampersand}
use Rattle.xml.specs.Xml.{name, entity, comment, open_name}
use Rattle.xml.specs.Elements.{Part, misc, child, close, markup, between, Holder, after_part, held}
use Rattle.claims.proofs.Always.{Holds, holds-ret, holds-bad, holds-cond, holds-look, holds-look_two, holds-judge, holds-seq, holds_then, TurnHolds, holds-loop}
use Rattle.claims.proofs.Numbers.{end_tag-holds}

-- ---- a name has a byte at least

letter-named : (b : ℕ) → is_letter b ≡ true → is_name_byte b ≡ true
unfolding is_name_byte
letter-named b q = rw q

name-holds : Holds (λ w. 0 < length w) name
unfolding name
name-holds = record { value = go }
  where
    more : (b : ℕ) (o : Out (List ℕ)) (a r : List ℕ) → then_out o (λ w. ret_p (b ∷ w)) ≡ done a r → 0 < length a
    more b (done w u) a r e = let z : b ∷ w ≡ a = cc in omega (arith, ap length z)
    more b (fault k u) a r e = nope cc
    more b cut a r e = nope cc

    by : (b : ℕ) (s a r : List ℕ) (v : Bool) → is_letter b ≡ v → (cond v (span is_name_byte) (bad 2)).run (b ∷ s) ≡ done a r → 0 < length a
    by b s a r true q e = more b (span_p is_name_byte s) a r (sym (ap (λ (v : Bool). cond v (then_out (span_p is_name_byte s) (λ w. ret_p (b ∷ w))) (done [] (b ∷ s))) (letter-named b q)) ∙ e)
    by b s a r false q e = nope cc

    go : (s a r : List ℕ) → (look (λ b. cond (is_letter b) (span is_name_byte) (bad 2))).run s ≡ done a r → 0 < length a
    go [] a r e = nope cc
    go (b ∷ s) a r e = by b s a r (is_letter b) refl e

pub open_name-holds : Holds (λ w. 0 < length w) open_name
unfolding open_name
open_name-holds = holds_then eat (λ a. name-holds)

-- ---- between elements

module _ {C : Type 0} (E : Type 0) (Q : C → Type 0) where
  -- of the end tag, that the element may end; of a child, its fact
  abbrev pub PartHolds : Part C → Type 0
  PartHolds misc = Unit {0}
  PartHolds (child c) = Q c
  PartHolds close = E

  module _ {end : G (Unit {0})} {fault : List ℕ → ℕ} {body : List ℕ → G C} (ends : Holds (λ u. E) end)
      (bodies : (w : List ℕ) → 0 < length w → fault w ≡ 0 → Holds Q (body w)) where
    child-holds : Holds PartHolds (seq (judge fault open_name) (λ w. seq (body w) (λ v. ret (child v))))
    child-holds =
        holds-seq (λ w. (0 < length w) × (fault w ≡ 0)) (holds-judge (λ w. 0 < length w) fault open_name-holds (λ w h q. (h, q)))
        (λ w h. holds-seq Q (bodies w h.0 h.1) (λ v q. holds-ret q))

    markup-holds : (a b : ℕ) → Holds PartHolds (markup end fault body a b)
    markup-holds a b =
        holds-cond (eqb b slash) (λ z. holds-seq (λ u. E) ends (λ u h. holds-ret h))
        (λ z. holds-cond (eqb b exclamation) (λ z. holds_then comment (λ u. holds-ret tt))
        (λ z. holds-cond (eqb b question) (λ z. holds-bad 3) (λ z. child-holds)))

    pub between-holds : Holds PartHolds (between end fault body)
    unfolding between
    between-holds =
        holds-look (λ b. holds-cond (is_space b) (λ z. holds_then eat (λ u. holds-ret tt))
        (λ z. holds-cond (eqb b less_than) (λ z. holds-look_two markup-holds)
        (λ z. holds-cond (eqb b ampersand) (λ z. holds_then (settle 5 entity) (λ u. holds-bad 5)) (λ z. holds-bad 5))))

-- ---- an element that holds elements: I holds from part to part, and at its end nothing is missing

module _ {S : Type 0} (h : Holder S) (I : S → Type 0) (body : (st : S) → I st → (w : List ℕ) → 0 < length w → h.fault st w ≡ 0 → Holds I (h.body st w)) where
  pub record Ended (st : S) : Type 0 where
    pub state : I st
    pub nothing : h.missing st ≡ 0

  part-holds : (st : S) → I st → (p : Part S) → PartHolds (h.missing st ≡ 0) I p → TurnHolds I Ended (after_part st p)
  part-holds st i misc k = i
  part-holds st i (child v) k = k
  part-holds st i close k = record { state = i; nothing = k }

  pub held-holds : {st : S} → I st → Holds Ended (held h st)
  held-holds i =
      holds-loop I Ended
      (λ st i. holds-seq (PartHolds (h.missing st ≡ 0) I)
      (between-holds (h.missing st ≡ 0) I (end_tag-holds h.name (h.missing st)) (body st i))
      (λ p k. holds-ret (part-holds st i p k)))
      i
