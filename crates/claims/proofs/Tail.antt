-- What stands behind the root: white space and comments. Its answer, as bytes are appended.
use mathlib.Core.Path.{◌≡◌, refl, sym, ap, ◌∙◌}
use mathlib.Core.Bool.{Bool, cond}
use mathlib.Core.List.{List, [], ◌∷◌, ◌++◌, append_assoc}
use Prim.Native.Nat.{ℕ, zero, suc, ◌≤◌, ◌<◌}
use native.Mathlib.Omega.{arith}
use borrow.Author.Tests.{le-ltb}
use lib.ListN.{length, length-append}
use Rattle.grammar.specs.Parse.{Out, done, fault, cut, turn_out, loop_p}
use Rattle.grammar.specs.Laws.{Follows, follows-self, follows-refl, StrongPrefix, cuts, faults, dones, loop-step, loop-again, loop-last, loop-fault, loop-cut}
use Rattle.grammar.specs.Grammar.{G, bad}
use Rattle.xml.specs.Xml.{stray_end}
use Rattle.xml.specs.Elements.{Part, between}
use Rattle.clf.specs.List.{onward, tail_part, tail}

abbrev part : G (Part (Unit {0}))
part = between stray_end (λ w. 5) (λ w. bad {A = Unit {0}} 5)

-- cut; at fault, whatever follows; or done with all its bytes: what follows is read as if it stood alone
pub data Tailed (s : List ℕ) : Type 0 where
  short : tail s ≡ cut → Tailed s
  at_fault : (k : ℕ) (c r : List ℕ) → s ≡ c ++ r → ((t : List ℕ) → tail (s ++ t) ≡ fault k (r ++ t)) → Tailed s
  whole : tail s ≡ done tt [] → ((t : List ℕ) → tail (s ++ t) ≡ tail t) → Tailed s

tail-nil : tail [] ≡ done tt []
unfolding tail
tail-nil = loop-last (λ (st : Unit {0}). tail_part) tt [] tt [] refl

module _ (b : ℕ) (s : List ℕ) where
  part_cut : part.run (b ∷ s) ≡ cut → tail (b ∷ s) ≡ cut
  unfolding tail
  part_cut q = loop-cut (λ (st : Unit {0}). tail_part) tt (b ∷ s) (ap onward q)

  part-fault : (k : ℕ) (r : List ℕ) → part.run (b ∷ s) ≡ fault k r → tail (b ∷ s) ≡ fault k r
  unfolding tail
  part-fault k r q = loop-fault (λ (st : Unit {0}). tail_part) tt (b ∷ s) k r (ap onward q)

  part-done : (p : Part (Unit {0})) (r : List ℕ) → part.run (b ∷ s) ≡ done p r → length r < length (b ∷ s) → tail (b ∷ s) ≡ tail r
  unfolding tail
  part-done p r q h = loop-again (λ (st : Unit {0}). tail_part) tt (b ∷ s) tt r (ap onward q) h

  -- a part that is done without a byte ends the tail as if cut
  part-stuck : (p : Part (Unit {0})) (r : List ℕ) → part.run (b ∷ s) ≡ done p r → length (b ∷ s) ≤ length r → tail (b ∷ s) ≡ cut
  unfolding tail
  part-stuck p r q h =
      loop-step (λ (st : Unit {0}). tail_part) tt (b ∷ s)
      ∙ ap (λ (o : Out (Part (Unit {0}))). turn_out (loop_p (λ (st : Unit {0}). tail_part)) (onward o) (b ∷ s)) q
      ∙ ap (λ (v : Bool). cond v (loop_p (λ (st : Unit {0}). tail_part) tt r) cut) (le-ltb (length r) (length (b ∷ s)) h)

-- after a part c, the tail goes on at r
module _ (s : List ℕ) (x : ℕ) (c r : List ℕ) (e : s ≡ x ∷ c ++ r) (h : (t : List ℕ) → Follows r t → tail (x ∷ c ++ t) ≡ tail t) where
  on : (t : List ℕ) → tail (s ++ t) ≡ tail (r ++ t)
  on t = ap (λ (l : List ℕ). tail (l ++ t)) e ∙ ap (λ (l : List ℕ). tail (x ∷ l)) (append_assoc c r t) ∙ h (r ++ t) (follows-self r t)

  tail-on : Tailed r → Tailed s
  tail-on (short q) = short (ap tail e ∙ h r (follows-refl r) ∙ q)
  tail-on (at_fault k c₂ r₂ e₂ h₂) =
      at_fault k ((x ∷ c) ++ c₂) r₂ (e ∙ ap (λ (l : List ℕ). x ∷ c ++ l) e₂ ∙ sym (append_assoc (x ∷ c) c₂ r₂)) (λ t. on t ∙ h₂ t)
  tail-on (whole q g) = whole (ap tail e ∙ h r (follows-refl r) ∙ q) (λ t. on t ∙ g t)

tail-by : (n : ℕ) → ((s : List ℕ) → length s < n → Tailed s) → (b : ℕ) (s : List ℕ) → length s < n → StrongPrefix part.run (b ∷ s) → Tailed (b ∷ s)
tail-by n ih b s l (cuts q) = short (part_cut b s q)
tail-by n ih b s l (faults k c r e h) = at_fault k c r e (λ t. part-fault b (s ++ t) k (r ++ t) (h t))
tail-by n ih b s l (dones p [] r e h) =
    short (part-stuck b s p r (ap part.run e ∙ h r (follows-refl r)) (omega (arith, ap length e)))
tail-by n ih b s l (dones p (x ∷ c) r e h) =
    tail-on (b ∷ s) x c r e (λ t w. part-done x (c ++ t) p t (h t w) (simp length-append (omega arith)))
    (ih r (omega (arith, ap length e, length-append c r)))

tail_all : (n : ℕ) (s : List ℕ) → length s < n → Tailed s
tail_all zero s h = absurd (omega arith)
tail_all (suc n) [] h = whole tail-nil (λ t. refl)
tail_all (suc n) (b ∷ s) h = tail-by n (tail_all n) b s (omega arith) (part.law (b ∷ s))

pub tail-law : (s : List ℕ) → Tailed s
tail-law s = tail_all (suc (length s)) s (omega arith)
