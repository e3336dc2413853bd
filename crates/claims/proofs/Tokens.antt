-- A token that is begun at a byte which ends none has a byte at least. Assumes nothing.
use mathlib.Core.Path.{◌≡◌, refl, sym, ap, ◌∙◌}
use mathlib.Core.Bool.{Bool, true, false, cond}
use mathlib.Core.List.{List, [], ◌∷◌, ◌++◌, append-nil}
use Prim.Native.Nat.{ℕ, ◌-◌, ◌≤◌, ◌<◌}
use native.Mathlib.Omega.{arith}
use lib.Dec.{eqb, ltb}
use lib.ListN.{length, take, length-append}
use lib.Seq.{length-take-le}
use borrow.Author.Tests.{ltb-true}
use Rattle.grammar.specs.Parse.{Out, done, fault, cut, Turn, again, last, before, then_out, ret_p, kept_out, turn_out, loop_p}
use Rattle.grammar.specs.Laws.{nope, StrongPrefix, cuts, faults, dones, follows-refl, loop-step}
use Rattle.grammar.specs.Grammar.{G, ret, bad, look, eat, loop, ◌>>◌}
use Rattle.xml.specs.Bytes.{less_than, ampersand}
use Rattle.xml.specs.Xml.{text, text_byte, entity}
use Rattle.clf.specs.Numbers.{ends_token, token}

-- what is left is no longer than what there was
rest-least : {A : Type 0} (p : G A) (s : List ℕ) (a : A) (r : List ℕ) → p.run s ≡ done a r → length r ≤ length s
rest-least p s a r q = go (p.law s)
  where
    go : StrongPrefix p.run s → length r ≤ length s
    go (cuts e) = nope cc
    go (faults k c u e h) = let x : p.run s ≡ fault k (u ++ []) = ap p.run (sym (append-nil s)) ∙ h [] in nope cc
    go (dones b c u e h) =
        let x : p.run s ≡ done b u = ap p.run e ∙ h u (follows-refl u) in
        let y : u ≡ r = cc in
        omega (arith, ap length e, length-append c u, ap length y)

-- ---- a text that does not end at its first byte takes that byte

after : {A : Type 0} (o : Out A) (x : Turn (Unit {0}) (Unit {0})) (r : List ℕ) → then_out {B = Turn (Unit {0}) (Unit {0})} o (λ a. ret_p (again tt)) ≡ done x r → x ≡ again tt
after (done a v) x r z = let y : again tt ≡ x = cc in sym y
after (fault k v) x r z = nope cc
after cut x r z = nope cc

abbrev turn : List ℕ → Out (Turn (Unit {0}) (Unit {0}))
turn s = (look (text_byte ends_token)).run s

-- the bytes of a text that is read
abbrev kept-bytes : Out ((Unit {0}) × List ℕ) → List ℕ
kept-bytes (done x r) = x.1
kept-bytes (fault k r) = []
kept-bytes cut = []

module _ (b : ℕ) (u : List ℕ) (h : ends_token b ≡ false) where
  goes_on : (x : Turn (Unit {0}) (Unit {0})) (r : List ℕ) → turn (b ∷ u) ≡ done x r → x ≡ again tt
  goes_on x r q = go (eqb b less_than) (eqb b ampersand) (ap (λ (v : Bool). (by-stop v (eqb b less_than) (eqb b ampersand)).run (b ∷ u)) (sym h) ∙ q)
    where
      by-stop : Bool → Bool → Bool → G (Turn (Unit {0}) (Unit {0}))
      by-stop v w y = cond v (ret (last tt)) (cond w (bad 2) (cond y (entity >> ret (again tt)) (eat >> ret (again tt))))

      go : (w y : Bool) → (by-stop false w y).run (b ∷ u) ≡ done x r → x ≡ again tt
      go true y z = nope cc
      go false true z = after (entity.run (b ∷ u)) x r z
      go false false z = after (eat.run (b ∷ u)) x r z

  taken : (a : Unit {0}) (r : List ℕ) → (loop (λ (st : Unit {0}). look (text_byte ends_token)) tt).run (b ∷ u) ≡ done a r → length r ≤ length u
  taken a r q = go (turn (b ∷ u)) refl (sym (loop-step (λ (st : Unit {0}). turn) tt (b ∷ u)) ∙ q)
    where
      go : (o : Out (Turn (Unit {0}) (Unit {0}))) → turn (b ∷ u) ≡ o → turn_out (loop_p (λ (st : Unit {0}). turn)) o (b ∷ u) ≡ done a r → length r ≤ length u
      go (done (last x) v) e z = let y : last x ≡ again tt = goes_on (last x) v e in nope cc
      go (done (again st) v) e z = by (ltb (length v) (length (b ∷ u))) refl z
        where
          by : (t : Bool) → ltb (length v) (length (b ∷ u)) ≡ t → cond t (loop_p (λ (st : Unit {0}). turn) st v) cut ≡ done a r → length r ≤ length u
          by true g y =
              let l : length v < length (b ∷ u) = ltb-true (length v) (length (b ∷ u)) g in
              let k : length r ≤ length v = rest-least (loop (λ (st : Unit {0}). look (text_byte ends_token)) st) v a r y in
              omega arith
          by false g y = nope cc
      go (fault k v) e z = nope cc
      go cut e z = nope cc

  pub token-some : (w r : List ℕ) → token.run (b ∷ u) ≡ done (tt, w) r → 1 ≤ length w
  unfolding token text
  token-some w r q = go ((loop (λ (st : Unit {0}). look (text_byte ends_token)) tt).run (b ∷ u)) refl q
    where
      go : (o : Out (Unit {0})) → (loop (λ (st : Unit {0}). look (text_byte ends_token)) tt).run (b ∷ u) ≡ o → kept_out o (b ∷ u) ≡ done (tt, w) r → 1 ≤ length w
      go (done a v) e z =
          let l : length v ≤ length u = taken a v e in
          let y : before (b ∷ u) v ≡ w = ap kept-bytes z in
          omega (arith, length-take-le (length (b ∷ u) - length v) (b ∷ u) (omega arith), ap length y)
      go (fault k v) e z = nope cc
      go cut e z = nope cc
