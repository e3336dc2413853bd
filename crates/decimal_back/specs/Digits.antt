-- The digits of a written whole number, read: they are all taken, and they say that number. Assumes nothing.
use Rattle.std.specs.Prelude.{◌≡◌, refl, Bool, true, false, cond, ◌&&◌, List, [], ◌∷◌, ◌++◌, ℕ, zero, suc, ◌+◌, ◌-◌, ◌*◌, ◌/◌, ◌%◌, ◌≤◌, ◌<◌, ltb, leb, eqb, length}
use Rattle.std.proofs.Common.{ap, ◌∙◌, arith, le-leb, ne_eqb, leb-true}
use Rattle.decimal_read.specs.Number.{is_digit, is_minus, behind_sign, digits_of, behind_digits, append}
use Rattle.decimal_write.specs.Written.{digits_within, digits}
use Rattle.decimal_write.specs.Laws.{Every, none, more, digits-every}

-- bytes that are decimal digits, and the numbers from 0 to 9 that they stand for
abbrev pub Digits : List ℕ → Type 0
Digits l = Every (λ b. is_digit b ≡ true) l

abbrev pub numbers : List ℕ → List ℕ
numbers [] = []
numbers (b ∷ l) = (b - 48) ∷ numbers l

digit-is : (k : ℕ) → k < 10 → is_digit (48 + k) ≡ true
unfolding is_digit
digit-is k h = rw (le-leb 48 (48 + k) (omega arith), le-leb (48 + k) 57 (omega arith))

-- ---- what the reader takes
pub digits_of-all : {l : List ℕ} (r : List ℕ) → Digits l → digits_of (l ++ r) ≡ numbers l ++ digits_of r
unfolding digits_of
digits_of-all r none = refl
digits_of-all r (more {b} {l} d p) = rw (d, digits_of-all r p)

pub behind_digits-all : {l : List ℕ} (r : List ℕ) → Digits l → behind_digits (l ++ r) ≡ behind_digits r
unfolding behind_digits
behind_digits-all r none = refl
behind_digits-all r (more {b} {l} d p) = rw (d, behind_digits-all r p)

pub numbers-append : (l m : List ℕ) → numbers (l ++ m) ≡ numbers l ++ numbers m
numbers-append [] m = refl
numbers-append (b ∷ l) m = rw (numbers-append l m)

pub length-numbers : (l : List ℕ) → length (numbers l) ≡ length l
length-numbers [] = refl
length-numbers (b ∷ l) = ap suc (length-numbers l)

append-both : (n : ℕ) (l m : List ℕ) → append n (l ++ m) ≡ append (append n l) m
unfolding append
append-both n [] m = refl
append-both n (d ∷ l) m = append-both (n * 10 + d) l m

-- ---- a first digit is no sign
no_sign : (b : ℕ) → is_digit b ≡ true → (eqb b 45 ≡ false) × (eqb b 43 ≡ false)
unfolding is_digit
no_sign b h = let l : 48 ≤ b = leb-true 48 b (first (leb 48 b) (leb b 57) h) in (ne_eqb b 45 (λ e. omega arith), ne_eqb b 43 (λ e. omega arith))
  where
    first : (x y : Bool) → (x && y) ≡ true → x ≡ true
    first true y h = refl
    first false y h = h

pub no_minus : {l : List ℕ} (r : List ℕ) → Digits l → 1 ≤ length l → is_minus (l ++ r) ≡ false
unfolding is_minus
no_minus r none h = absurd (omega arith)
no_minus r (more {b} {l} d p) h = (no_sign b d).0

pub no-sign-before : {l : List ℕ} (r : List ℕ) → Digits l → 1 ≤ length l → behind_sign (l ++ r) ≡ l ++ r
unfolding behind_sign
no-sign-before r none h = absurd (omega arith)
no-sign-before r (more {b} {l} d p) h = rw ((no_sign b d).0, (no_sign b d).1)

-- ---- the digits of n
within-says : (f n : ℕ) → n ≤ f → append 0 (numbers (digits_within f n)) ≡ n
unfolding digits_within append
within-says zero n h = omega arith
within-says (suc f) n h = go (ltb n 10) (within-says f (n / 10) (omega arith))
  where
    go : (t : Bool) → append 0 (numbers (digits_within f (n / 10))) ≡ n / 10 → append 0 (numbers (cond t ((48 + n) ∷ []) (digits_within f (n / 10) ++ ((48 + n % 10) ∷ [])))) ≡ n
    go true e = omega arith
    go false e =
        ap (append 0) (numbers-append (digits_within f (n / 10)) ((48 + n % 10) ∷ [])) ∙
        append-both 0 (numbers (digits_within f (n / 10))) (numbers ((48 + n % 10) ∷ [])) ∙
        ap (λ (k : ℕ). append k (numbers ((48 + n % 10) ∷ []))) e ∙
        omega arith

pub digits-digits : (n : ℕ) → Digits (digits n)
digits-digits n = digits-every (λ b. is_digit b ≡ true) digit-is n

pub digits-say : (n : ℕ) → append 0 (numbers (digits n)) ≡ n
unfolding digits
digits-say n = within-says n n (omega arith)
