-- What is written reads back: reading the written bytes of a number gives that number. Assumes nothing.
use Rattle.std.specs.Prelude.{◌≡◌, refl, Bool, true, false, ◌&&◌, ◌||◌, not, List, [], ◌∷◌, ◌++◌, ℕ, zero, suc, ◌+◌, ◌/◌, ◌%◌, ◌^◌, ◌≤◌, ◌⊎◌, leb, ltb, ℤ, pos, negsuc, ◌+ℤ◌}
use Rattle.std.proofs.Math.Path.{sym, ap}
use Rattle.std.proofs.Common.{◌∙◌, append-nil, arith, inl, inr}
use Rattle.std.proofs.lemmas.Bool.{false≢true}
use Rattle.std.proofs.Math.Option.{Option, some}
use borrow.Author.Tests.{le-leb, ne_eqb, eq-eqb, eqb-true, eqb-false, leb-true}
use Rattle.std.proofs.Math.Dec.{eqb}
use Rattle.std.proofs.Math.IntN.{+ℤ_idr}
use Rattle.std.proofs.Math.ListN.{length}
use Rattle.decimal.specs.declared.Decimal.{Decimal}
use Rattle.std.specs.Prelude.{Ok}
use Rattle.decimal.specs.Decimal.{size, in_range}
use Rattle.decimal_read.specs.Number.{Form, is_mark, is_empty, is_minus, behind_sign, digits_of, behind_digits, fraction_of, behind_fraction, is_exponent, exponent_minus, exponent_digits}
use Rattle.decimal_read.specs.Number.{form_of, append, with_sign, scale, zeros, trailing, token_by, token_of}
use Rattle.decimal_read.specs.Number as Read
use Rattle.decimal_write.specs.Written.{digits, whole_text, exponent, written_of, is_normal}
use Rattle.decimal_write.specs.Laws.{written-short, written-parts, digits-short, digits-some}
use Rattle.decimal_back.specs.Digits.{numbers, digits_of-all, behind_digits-all, length-numbers, no_minus, no-sign-before, digits-digits, digits-say}

-- ---- a whole number: its sign, then its digits
abbrev below : ℤ → Bool
below (pos n) = false
below (negsuc n) = true

whole-minus : (z : ℤ) (r : List ℕ) → is_minus (whole_text z ++ r) ≡ below z
unfolding whole_text is_minus
whole-minus (pos n) r = no_minus r (digits-digits n) (digits-some n)
whole-minus (negsuc n) r = refl

whole-behind : (z : ℤ) (r : List ℕ) → behind_sign (whole_text z ++ r) ≡ digits (size z) ++ r
unfolding whole_text behind_sign
whole-behind (pos n) r = no-sign-before r (digits-digits n) (digits-some n)
whole-behind (negsuc n) r = refl

signed_is : (z : ℤ) → with_sign (below z) (size z) ≡ z
unfolding with_sign
signed_is (pos n) = refl
signed_is (negsuc n) = refl

zero-size : (z : ℤ) → size z ≡ 0 → z ≡ pos 0
zero-size (pos n) e = ap pos e
zero-size (negsuc n) e = absurd (omega arith)

-- ---- the exponent: nothing, or `e` and a whole number
data Exponent (z : ℤ) : Type 0 where
  absent : size z ≡ 0 → exponent z ≡ [] → Exponent z
  present : exponent z ≡ 101 ∷ whole_text z → Exponent z

exponent-case : (z : ℤ) → Exponent z
unfolding exponent
exponent-case z = go (eqb (size z) 0) refl
  where
    go : (t : Bool) → eqb (size z) 0 ≡ t → Exponent z
    go true e = absent (eqb-true (size z) 0 e) (rw e)
    go false e = present (rw e)

whole_numbers : (z : ℤ) → digits_of (behind_sign (whole_text z)) ≡ numbers (digits (size z))
unfolding digits_of
whole_numbers z =
    ap (λ (l : List ℕ). digits_of (behind_sign l)) (sym (append-nil (whole_text z))) ∙
    ap digits_of (whole-behind z []) ∙
    digits_of-all [] (digits-digits (size z)) ∙
    append-nil (numbers (digits (size z)))

whole-ends : (z : ℤ) → behind_digits (behind_sign (whole_text z)) ≡ []
unfolding behind_digits
whole-ends z =
    ap (λ (l : List ℕ). behind_digits (behind_sign l)) (sym (append-nil (whole_text z))) ∙
    ap behind_digits (whole-behind z []) ∙
    behind_digits-all [] (digits-digits (size z))

sign-alone : (z : ℤ) → is_minus (whole_text z) ≡ below z
sign-alone z = ap is_minus (sym (append-nil (whole_text z))) ∙ whole-minus z []

-- a number's digits stop at it, no point stands there, and it is an exponent of at most two digits
stops : (z : ℤ) → Exponent z → (digits_of (exponent z) ≡ []) × (behind_digits (exponent z) ≡ exponent z) × (fraction_of (exponent z) ≡ []) × (behind_fraction (exponent z) ≡ exponent z)
unfolding digits_of behind_digits fraction_of behind_fraction Read.is_digit
stops z (absent s e) = rw e (refl, refl, refl, refl)
stops z (present e) = rw e (refl, refl, refl, refl)

is-exponent : (z : ℤ) → Exponent z → size z ≤ 22 → is_exponent (exponent z) ≡ true
unfolding is_exponent is_mark is_empty
is-exponent z (absent s e) h = rw e
is-exponent z (present e) h =
    let a : 1 ≤ length (numbers (digits (size z))) = omega (arith, length-numbers (digits (size z)), digits-some (size z)) in
    let b : length (numbers (digits (size z))) ≤ 2 = omega (arith, length-numbers (digits (size z)), digits-short (size z) 1 (omega arith)) in
    rw (e, whole-ends z, whole_numbers z, le-leb 1 (length (numbers (digits (size z)))) a, le-leb (length (numbers (digits (size z)))) 2 b)

exponent-says : (z : ℤ) → Exponent z → with_sign (exponent_minus (exponent z)) (append 0 (exponent_digits (exponent z))) ≡ z
unfolding exponent_minus exponent_digits append with_sign
exponent-says z (absent s e) = rw e (sym (zero-size z s))
exponent-says z (present e) = rw (e, sign-alone z, whole_numbers z, digits-say) (signed_is z)

-- ---- the form of a written number
abbrev form : Decimal → Form
form d =
    record {
      negative = below d.coefficient;
      whole = numbers (digits (size d.coefficient));
      fraction = [];
      down = exponent_minus (exponent d.power);
      exponent = exponent_digits (exponent d.power);
    }

module _ (d : Decimal) (h : size d.power ≤ 22) where
  abbrev c : ℤ
  c = d.coefficient

  abbrev e : List ℕ
  e = exponent d.power

  ends : (digits_of e ≡ []) × (behind_digits e ≡ e) × (fraction_of e ≡ []) × (behind_fraction e ≡ e)
  ends = stops d.power (exponent-case d.power)

  body : behind_sign (whole_text c ++ e) ≡ digits (size c) ++ e
  body = whole-behind c e

  taken : digits_of (digits (size c) ++ e) ≡ numbers (digits (size c))
  taken = digits_of-all e (digits-digits (size c)) ∙ ap (λ (l : List ℕ). numbers (digits (size c)) ++ l) ends.0 ∙ append-nil (numbers (digits (size c)))

  left : behind_digits (digits (size c) ++ e) ≡ e
  left = behind_digits-all e (digits-digits (size c)) ∙ ends.1

  written-form : form_of (whole_text c ++ e) ≡ some (form d)
  unfolding form_of
  written-form =
      let a : 1 ≤ length (numbers (digits (size c))) + 0 = omega (arith, length-numbers (digits (size c)), digits-some (size c)) in
      rw (whole-minus c e, body, taken, left, ends.2, ends.3, is-exponent d.power (exponent-case d.power) h, le-leb 1 (length (numbers (digits (size c))) + 0) a)

-- ---- the number that this form says
no-zeros : (k n : ℕ) → eqb (n % 10) 0 ≡ false → zeros k n ≡ 0
unfolding zeros
no-zeros zero n h = refl
no-zeros (suc k) n h = rw h

module _ (d : Decimal) where
  form-digits : Read.digits_number (form d) ≡ size d.coefficient
  unfolding Read.digits_number
  form-digits = ap (append 0) (append-nil (numbers (digits (size d.coefficient)))) ∙ digits-say (size d.coefficient)

  form-scale : scale (form d) ≡ d.power
  unfolding scale
  form-scale = +ℤ_idr (with_sign (exponent_minus (exponent d.power)) (append 0 (exponent_digits (exponent d.power)))) ∙ exponent-says d.power (exponent-case d.power)

  form-trailing : eqb (size d.coefficient % 10) 0 ≡ false → trailing (form d) ≡ 0
  unfolding trailing
  form-trailing h = rw form-digits (no-zeros (length (numbers (digits (size d.coefficient)) ++ [])) (size d.coefficient) h)

  coefficient-back : eqb (size d.coefficient % 10) 0 ≡ false → with_sign (below d.coefficient) (Read.digits_number (form d) / 10 ^ trailing (form d)) ≡ d.coefficient
  coefficient-back h = rw (form-digits, form-trailing h) (ap (with_sign (below d.coefficient)) (omega arith) ∙ signed_is d.coefficient)

  power-back : eqb (size d.coefficient % 10) 0 ≡ false → scale (form d) +ℤ pos (trailing (form d)) ≡ d.power
  power-back h = rw (form-scale, form-trailing h) (+ℤ_idr d.power)

  ended-not : eqb (size d.coefficient % 10) 0 ≡ false → eqb (size d.coefficient) 0 ≡ false
  ended-not h = ne_eqb (size d.coefficient) 0 (λ z. eqb-false (size d.coefficient % 10) 0 h (ap (λ (n : ℕ). n % 10) z))

  other-back : eqb (size d.coefficient % 10) 0 ≡ false → Read.normal (form d) ≡ d
  unfolding Read.normal
  other-back h =
      rw (ap (λ (n : ℕ). eqb n 0) form-digits ∙ ended-not h)
      (λ i. record { coefficient = coefficient-back h i; power = power-back h i })

  zero-back : size d.coefficient ≡ 0 → size d.power ≡ 0 → Read.normal (form d) ≡ d
  unfolding Read.normal
  zero-back z p =
      rw (ap (λ (n : ℕ). eqb n 0) form-digits ∙ eq-eqb (size d.coefficient) 0 z)
      (λ i. record { coefficient = sym (zero-size d.coefficient z) i; power = sym (zero-size d.power p) i })

parts : (a b c : Bool) → (not a || (b && c)) ≡ true → (a ≡ false) ⊎ ((b ≡ true) × (c ≡ true))
parts false b c h = inl refl
parts true true true h = inr (refl, refl)
parts true true false h = absurd (false≢true h)
parts true false c h = absurd (false≢true h)

normal-back : (d : Decimal) → is_normal d ≡ true → Read.normal (form d) ≡ d
unfolding is_normal
normal-back d h = elim (parts (eqb (size d.coefficient % 10) 0) (eqb (size d.coefficient) 0) (eqb (size d.power) 0) h) [
  | inl a ↦ other-back d a
  | inr b ↦ zero-back d (eqb-true (size d.coefficient) 0 b.0) (eqb-true (size d.power) 0 b.1)
]

-- ---- the law
and_right : (a b : Bool) → (a && b) ≡ true → b ≡ true
and_right true b h = h
and_right false b h = absurd (false≢true h)

judged-is : (k : ℕ) (o : Option Form) (f : Form) (d : Decimal) → k ≤ 64 → o ≡ some f → Read.normal f ≡ d → in_range d ≡ true → token_by k o ≡ Ok d
unfolding token_by
judged-is k o f d l e n h = rw (e, le-leb k 64 l, n, h)

-- a number that a token can stand for, written, is read as that number
pub reads-back : (d : Decimal) → in_range d ≡ true → is_normal d ≡ true → token_of (written_of d) ≡ Ok d
unfolding token_of
reads-back d h n =
    let p : size d.power ≤ 22 = leb-true (size d.power) 22 (and_right (ltb (size d.coefficient) (10 ^ 15)) (leb (size d.power) 22) h) in
    let l : length (written_of d) ≤ 64 = omega (arith, written-short d) in
    judged-is (length (written_of d)) (form_of (written_of d)) (form d) d l (ap form_of (written-parts d h) ∙ written-form d p) (normal-back d n) h
