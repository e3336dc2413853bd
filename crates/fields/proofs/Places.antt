-- The first place that passes a test, byte by byte; and a byte that ends a number. Assumes nothing.
use mathlib.Core.Path.{◌≡◌, refl, sym, ap, ◌∙◌, subst}
use mathlib.Core.Bool.{Bool, true, false}
use mathlib.Core.List.{List, [], ◌∷◌}
use Prim.Native.Nat.{ℕ, zero, suc, ◌+◌, ◌-◌, ◌<◌}
use native.Mathlib.Omega.{arith}
use lib.Dec.{ltb}
use lib.ListN.{length, drop, get_or}
use borrow.Author.Tests.{ltb-true, ltb-false}
use Rattle.std.specs.Char.{is_ascii_digit}
use Rattle.std.specs.Prelude.{None}
use Rattle.std.proofs.lemmas.Grind.{common_steps}
use Rattle.scanning.specs.Steps.{here, past}
use Rattle.fields.specs.Fields.{FirstFrom, number_from}
use Rattle.fields.specs.Laws.{number_from-cons}

-- place follows a list from `at` on, on over each byte that fails the test, and stops at the first that passes it
module _ (Tells : ℕ → Bool → Type 0) (s : List ℕ) (place : ℕ → List ℕ → ℕ) (end : (at : ℕ) → place at [] ≡ at)
    (stop : (at b : ℕ) (l : List ℕ) → Tells b true → place at (b ∷ l) ≡ at) (more : (at b : ℕ) (l : List ℕ) → Tells b false → place at (b ∷ l) ≡ place (at + 1) l) where
  at_place : (at : ℕ) → FirstFrom Tells s at at → at ≡ place at (drop at s)
  at_place at f = go (ltb at (length s)) refl
    where
      go : (t : Bool) → ltb at (length s) ≡ t → at ≡ place at (drop at s)
      go true e = let l : at < length s = ltb-true at (length s) e in sym (ap (place at) (here s at l) ∙ stop at (get_or s at 0) (drop (at + 1) s) (f.found l))
      go false e = sym (ap (place at) (past s at (ltb-false at (length s) e)) ∙ end at)

  walk : (n at r : ℕ) → r ≡ at + n → FirstFrom Tells s at r → r ≡ place at (drop at s)
  walk zero at r e f = subst (λ (k : ℕ). FirstFrom Tells s at k → k ≡ place at (drop at s)) (omega arith) (at_place at) f
  walk (suc n) at r e f =
      let l : at < length s = omega (arith, f.within) in
      let next : FirstFrom Tells s (at + 1) r = record { from = omega arith; within = omega (arith, f.within); before = λ k a b c. f.before k (omega arith) b c; found = f.found } in
      walk n (at + 1) r (omega arith) next ∙ sym (ap (place at) (here s at l) ∙ more at (get_or s at 0) (drop (at + 1) s) (f.before at (omega arith) (omega arith) l))

  pub first-is : (at r : ℕ) → FirstFrom Tells s at r → r ≡ place at (drop at s)
  first-is at r f = walk (r - at) at r (omega (arith, f.from)) f

-- the same place by another way to say what the test answers to a byte of s
pub first-told : {P Q : ℕ → Bool → Type 0} {s : List ℕ} {at r : ℕ} → FirstFrom P s at r → ((k : ℕ) (t : Bool) → k < length s → P (get_or s k 0) t → Q (get_or s k 0) t) → FirstFrom Q s at r
first-told {r = r} f h = record { from = f.from; within = f.within; before = λ k a b l. h k false l (f.before k a b l); found = λ l. h r true l (f.found l) }

-- a byte that is no digit
pub digit_none : (s : List ℕ) (n i : ℕ) → i < length s → is_ascii_digit (get_or s i 0) ≡ false → None ≡ number_from n (drop i s)
digit_none s n i l h = rw (here s i l, number_from-cons) (grind (arith, common_steps))
