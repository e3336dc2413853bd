-- A number without the zeros at its end: there is one such pair, and `zeros` finds it. Assumes nothing.
use Prim.Native.Nat.{ℕ, zero, suc, ◌*◌, ◌^◌, ◌/◌, ◌%◌, ◌≤◌, ◌<◌}
use mathlib.Core.Path.{◌≡◌, refl, sym, ap, ◌∙◌, subst}
use mathlib.Core.Bool.{Bool, true, false, cond}
use native.Mathlib.Nat.{pow-suc, mul-one, mul_assoc, div-one, div-div-eq-div-mul, mul_comm, mul-mod_left, eq_of_mul-eq-mul_right, one-le-pow, le-mul_of_pos_right}
use native.Mathlib.Omega.{arith}
use borrow.Author.Tests.{eqb-true, eqb-false}
use lib.Dec.{eqb}
use Rattle.decimal_read.specs.Number.{zeros}

-- n is c followed by z zeros, and c ends in none
pub record Stripped (n c z : ℕ) : Type 0 where
  pub same : n ≡ c * 10 ^ z
  pub ends : c % 10 ≡ 0 → ⊥

pub pow-above : (k : ℕ) → 0 < 10 ^ k
pow-above k = one-le-pow k 10 (omega arith)

pub least : {n q j : ℕ} → Stripped n q j → q ≤ n
least {n} {q} {j} s = subst (λ (m : ℕ). q ≤ m) (sym s.same) (le-mul_of_pos_right q (pow-above j))

-- ten times more
pub ten-more : (c z : ℕ) → c * 10 ^ suc z ≡ c * 10 ^ z * 10
ten-more c z = ap (λ (p : ℕ). c * p) (pow-suc 10 z) ∙ sym (mul_assoc c (10 ^ z) 10)

no_zero : (c : ℕ) → c ≡ c * 10 ^ 0
no_zero c = sym (mul-one c)

div-more : (n z : ℕ) → n / 10 ^ suc z ≡ n / 10 / 10 ^ z
div-more n z = ap (λ (p : ℕ). n / p) (pow-suc 10 z ∙ mul_comm (10 ^ z) 10) ∙ sym (div-div-eq-div-mul n 10 (10 ^ z))

pub unique : (c z c' z' : ℕ) → (c % 10 ≡ 0 → ⊥) → (c' % 10 ≡ 0 → ⊥) → c * 10 ^ z ≡ c' * 10 ^ z' → (c ≡ c') × (z ≡ z')
unique c zero c' zero h h' e = (no_zero c ∙ e ∙ sym (no_zero c'), refl)
unique c zero c' (suc z') h h' e = absurd (h (ap (λ (n : ℕ). n % 10) (no_zero c ∙ e ∙ ten-more c' z') ∙ mul-mod_left (c' * 10 ^ z') 10))
unique c (suc z) c' zero h h' e = absurd (h' (ap (λ (n : ℕ). n % 10) (no_zero c' ∙ sym e ∙ ten-more c z) ∙ mul-mod_left (c * 10 ^ z) 10))
unique c (suc z) c' (suc z') h h' e = next (unique c z c' z' h h' (eq_of_mul-eq-mul_right 10 (omega arith) (c * 10 ^ z) (c' * 10 ^ z') (sym (ten-more c z) ∙ e ∙ ten-more c' z')))
  where
    next : (c ≡ c') × (z ≡ z') → (c ≡ c') × (suc z ≡ suc z')
    next p = (p.0, ap suc p.1)

pub one-pair : {n c z c' z' : ℕ} → Stripped n c z → Stripped n c' z' → (c ≡ c') × (z ≡ z')
one-pair {n} {c} {z} {c'} {z'} s s' = unique c z c' z' s.ends s'.ends (sym s.same ∙ s'.same)

-- the zeros that `zeros` counts are there, and it counts them all
pub zeros-le : (k n : ℕ) → zeros k n ≤ k
unfolding zeros
zeros-le zero n = omega arith
zeros-le (suc k) n = go (eqb (n % 10) 0) (zeros-le k (n / 10))
  where
    go : (t : Bool) → zeros k (n / 10) ≤ k → cond t (suc (zeros k (n / 10))) 0 ≤ suc k
    go true h = omega arith
    go false h = omega arith

-- n ends in a zero: what holds of n / 10 holds of n
one_more : (n z : ℕ) → n % 10 ≡ 0 → Stripped (n / 10) (n / 10 / 10 ^ z) z → Stripped n (n / 10 ^ suc z) (suc z)
one_more n z e s = rw (div-more n z) (record { same = whole ∙ sym (ten-more (n / 10 / 10 ^ z) z); ends = s.ends })
  where
    whole : n ≡ n / 10 / 10 ^ z * 10 ^ z * 10
    whole = subst (λ (m : ℕ). n ≡ m * 10) s.same (omega arith)

pub found : (k n : ℕ) → 0 < n → n < 10 ^ k → Stripped n (n / 10 ^ zeros k n) (zeros k n)
unfolding zeros
found zero n p h = absurd (omega arith)
found (suc k) n p h = go (eqb (n % 10) 0) refl (found k (n / 10))
  where
    z : ℕ
    z = zeros k (n / 10)

    go : (t : Bool) → eqb (n % 10) 0 ≡ t → (0 < n / 10 → n / 10 < 10 ^ k → Stripped (n / 10) (n / 10 / 10 ^ z) z) → Stripped n (n / 10 ^ cond t (suc z) 0) (cond t (suc z) 0)
    go false e f = record { same = no_zero n ∙ ap (λ (m : ℕ). m * 10 ^ 0) (sym (div-one n)); ends = λ q. eqb-false (n % 10) 0 e (ap (λ (m : ℕ). m % 10) (sym (div-one n)) ∙ q) }
    go true e f = let d : n % 10 ≡ 0 = eqb-true (n % 10) 0 e in one_more n z d (f (omega arith) (omega (arith, pow-suc 10 k)))
