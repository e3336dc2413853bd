-- What the digits held by the code say of the number that all the digits say. Assumes nothing.
use Prim.Native.Nat.{ℕ, suc, ◌+◌, ◌-◌, ◌*◌, ◌^◌, ◌≤◌, ◌<◌}
use mathlib.Core.Path.{◌≡◌, refl, sym, ap, ◌∙◌, subst}
use mathlib.Core.Bool.{Bool, true, false, cond}
use mathlib.Core.List.{List, [], ◌∷◌, ◌++◌}
use native.Mathlib.Nat.{mul-one, le-mul_of_pos_right, le_trans}
use native.Mathlib.Numerals.{add-one}
use native.Mathlib.Omega.{arith}
use borrow.Author.Tests.{ltb-true, ltb-false, eqb-true, eqb-false}
use lib.Dec.{ltb, eqb}
use lib.ListN.{length}
use Rattle.decimal_read.specs.declared.Held.{Held}
use Rattle.decimal_read.specs.Number.{is_digit, digits_of, fraction_of, append}
use Rattle.decimal_read.specs.Steps.{no_digits, held_with, held_all}
use Rattle.decimal_read.proofs.Laws.{digit_low, digit-high}
use Rattle.decimal_read.proofs.Zeros.{Stripped, pow-above, ten-more, least}

-- every element is a digit
pub data Small : List ℕ → Type 0 where
  end : Small []
  more : {d : ℕ} {l : List ℕ} → d < 10 → Small l → Small (d ∷ l)

pub digits-small : (l : List ℕ) → Small (digits_of l)
unfolding digits_of
digits-small [] = end
digits-small (b ∷ l) = go (is_digit b) refl (digits-small l)
  where
    go : (t : Bool) → is_digit b ≡ t → Small (digits_of l) → Small (cond t ((b - 48) ∷ digits_of l) [])
    go true e s = more {d = b - 48} (omega (arith, digit_low b (is_digit b) refl e, digit-high b (is_digit b) refl e)) s
    go false e s = end

pub fraction-small : (l : List ℕ) → Small (fraction_of l)
unfolding fraction_of
fraction-small [] = end
fraction-small (b ∷ l) = go (eqb b 46)
  where
    go : (t : Bool) → Small (cond t (digits_of l) [])
    go true = digits-small l
    go false = end

pub both_small : {a b : List ℕ} → Small a → Small b → Small (a ++ b)
both_small end s = s
both_small (more d r) s = more d (both_small r s)

pub append-both : (n : ℕ) (a b : List ℕ) → append n (a ++ b) ≡ append (append n a) b
unfolding append
append-both n [] b = refl
append-both n (d ∷ a) b = append-both (n * 10 + d) a b

pub held_both : (h : Held) (a b : List ℕ) → held_all h (a ++ b) ≡ held_all (held_all h a) b
unfolding held_all
held_both h [] b = refl
held_both h (d ∷ a) b = held_both (held_with h d) a b

-- a number has no more digits than were read
more_room : (n d k : ℕ) → d < 10 → suc (n * 10 + d) * 10 ^ k ≤ suc n * 10 ^ suc k
more_room n d k h = rw (ten-more (suc n) k) (omega (arith, native.Mathlib.Nat.mul-le-mul_right (10 ^ k) (fits)))
  where
    fits : suc (n * 10 + d) ≤ suc n * 10
    fits = omega arith

pub append-lt : (n : ℕ) {l : List ℕ} → Small l → append n l < suc n * 10 ^ length l
unfolding append
append-lt n end = omega arith
append-lt n (more {d = d} {l = l} h s) = le_trans (append-lt (n * 10 + d) s) (more_room n d (length l) h)

-- n is the number that the digits read so far say, h what the code holds
pub data Stands (n : ℕ) (h : Held) : Type 0 where
  exact : n ≡ h.value * 10 ^ h.dropped → (h.value < 10 ^ 18 → h.dropped ≡ 0) → Stands n h
  lost : {q j : ℕ} → h.value ≡ 10 ^ 18 + 1 → Stripped n q j → 10 ^ 18 ≤ q → Stands n h

pub none_read : Stands 0 no_digits
none_read = exact refl (λ p. refl)

-- one digit more
past : (n d : ℕ) → d < 10 → (d ≡ 0 → ⊥) → Stripped (n * 10 + d) (n * 10 + d) 0
past n d l z = record { same = sym (mul-one (n * 10 + d)); ends = λ e. z (omega arith) }

full-exact : (n v k : ℕ) → n ≡ v * 10 ^ k → n * 10 + 0 ≡ v * 10 ^ (k + 1)
full-exact n v k e = omega (arith, ap (λ (m : ℕ). v * 10 ^ m) (add-one k), ten-more v k, e)

full-lost : {n q j : ℕ} → Stripped n q j → Stripped (n * 10 + 0) q (suc j)
full-lost {n} {q} {j} s = record { same = omega (arith, ten-more q j, s.same); ends = s.ends }

plain : (v k : ℕ) → k ≡ 0 → v * 10 ^ k ≡ v
plain v k e = ap (λ (m : ℕ). v * 10 ^ m) e ∙ mul-one v

module _ (n d : ℕ) (h : Held) (small : d < 10) where
  with-small : (h.value < 10 ^ 18) → Stands n h → Stands (n * 10 + d) (record { value = h.value * 10 + d; dropped = h.dropped })
  with-small p (exact e f) = exact (omega (arith, e ∙ plain h.value h.dropped (f p), plain (h.value * 10 + d) h.dropped (f p))) (λ q. f p)
  with-small p (lost e s l) = absurd (omega arith)

  with-full : (t : Bool) → eqb d 0 ≡ t → 10 ^ 18 ≤ h.value → Stands n h → Stands (n * 10 + d) (record { value = cond t h.value (10 ^ 18 + 1); dropped = h.dropped + 1 })
  with-full true e p (exact e' f) = exact (omega (arith, full-exact n h.value h.dropped e', eqb-true d 0 e)) (λ q. absurd (omega arith))
  with-full true e p (lost {q = q} {j = j} e' s l) = lost e' (subst (λ (m : ℕ). Stripped (n * 10 + m) q (suc j)) (sym (eqb-true d 0 e)) (full-lost s)) l
  with-full false e p (exact e' f) = lost refl (past n d small (eqb-false d 0 e)) (omega (arith, e', le-mul_of_pos_right h.value (pow-above h.dropped)))
  with-full false e p (lost e' s l) = lost refl (past n d small (eqb-false d 0 e)) (omega (arith, least s))

  pub stands-with : Stands n h → Stands (n * 10 + d) (held_with h d)
  unfolding held_with
  stands-with s = go (ltb h.value (10 ^ 18)) refl
    where
      go : (t : Bool) → ltb h.value (10 ^ 18) ≡ t
          → Stands (n * 10 + d) (cond t (record { value = h.value * 10 + d; dropped = h.dropped }) (record { value = cond (eqb d 0) h.value (10 ^ 18 + 1); dropped = h.dropped + 1 }))
      go true e = with-small (ltb-true h.value (10 ^ 18) e) s
      go false e = with-full (eqb d 0) refl (ltb-false h.value (10 ^ 18) e) s

pub stands-all : (n : ℕ) (h : Held) {l : List ℕ} → Small l → Stands n h → Stands (append n l) (held_all h l)
unfolding append held_all
stands-all n h end s = s
stands-all n h (more {d = d} p r) s = stands-all (n * 10 + d) (held_with h d) r (stands-with n d h p s)
