-- (a) The value of an accepted token is its coefficient times 10 to its power, and likewise of one out of bounds. Assumes nothing.
use mathlib.Core.Path.{◌≡◌, refl, sym, ap, ◌∙◌, subst}
use mathlib.Core.Bool.{Bool, true, false, cond}
use mathlib.Core.List.{List, ◌++◌}
use mathlib.Core.Option.{some}
use Prim.Native.Nat.{ℕ, zero, suc, ◌+◌, ◌-◌, ◌*◌, ◌^◌, ◌/◌}
use native.Mathlib.Nat.{mul_assoc, zero-mul}
use native.Mathlib.Omega.{arith}
use borrow.Author.Tests.{eqb-true, eqb-false, ltb-true, ltb-false}
use lib.Dec.{ltb, eqb}
use lib.IntN.{ℤ, pos, negsuc, ◌+ℤ◌}
use lib.Pow.{pow-add}
use Rattle.decimal.specs.Decimal as D
use Rattle.decimal.specs.declared.Decimal.{Decimal}
use Rattle.std.specs.Prelude.{Ok, Err}
use Rattle.decimal.specs.declared.NumberFault.TheVariants.{OutOfBounds}
use Rattle.decimal_read.specs.Number.{Form, digits_number, scale, trailing, with_sign, normal, form_of, token_of}
use Rattle.decimal_read.proofs.Zeros.{Stripped}
use Rattle.decimal_read.proofs.Stands.{Small}
use Rattle.decimal_read.proofs.Ranged.{size-with}
use Rattle.decimal_read.proofs.Settled.{own_pair, normal-zero, normal-other}
use Rattle.decimal_laws.specs.Value.{up, down, Same, is_negative, said, held}
use Rattle.decimal_read.specs.Told.{Accepted, Beyond}
use Rattle.decimal_read.specs.RightForm.{form_said}
use Rattle.decimal_read.proofs.RightForms.{right-form}
use Rattle.decimal_read.proofs.Told.{tells-apart}
use Rattle.decimal_laws.proofs.Accepted.{accepted, form_small}

-- moving z zeros into the power
shift : (p : ℤ) (z : ℕ) → z + up p + down (p +ℤ pos z) ≡ up (p +ℤ pos z) + down p
unfolding up down
shift (pos n) z = omega arith
shift (negsuc n) z = go (ltb z (suc n)) refl
  where
    go : (b : Bool) → ltb z (suc n) ≡ b → z + 0 + down (cond b (negsuc (suc n - suc z)) (pos (z - suc n))) ≡ up (cond b (negsuc (suc n - suc z)) (pos (z - suc n))) + suc n
    go true e = omega (arith, ltb-true z (suc n) e)
    go false e = omega (arith, ltb-false z (suc n) e)

pub powers : (c a b : ℕ) → c * 10 ^ a * 10 ^ b ≡ c * 10 ^ (a + b)
powers c a b = mul_assoc c (10 ^ a) (10 ^ b) ∙ ap (λ (m : ℕ). c * m) (sym (pow-add 10 a b))

crosswise-moved : (n c z : ℕ) (p : ℤ) → n ≡ c * 10 ^ z → n * 10 ^ up p * 10 ^ down (p +ℤ pos z) ≡ c * 10 ^ up (p +ℤ pos z) * 10 ^ down p
crosswise-moved n c z p e =
    ap (λ (m : ℕ). m * 10 ^ up p * 10 ^ down (p +ℤ pos z)) e ∙ ap (λ (m : ℕ). m * 10 ^ down (p +ℤ pos z)) (powers c z (up p)) ∙ powers c (z + up p) (down (p +ℤ pos z))
    ∙ ap (λ (m : ℕ). c * 10 ^ m) (shift p z) ∙ sym (powers c (up (p +ℤ pos z)) (down p))

sign-with : (s : Bool) (c : ℕ) → (c ≡ 0 → ⊥) → s ≡ is_negative (with_sign s c)
unfolding is_negative with_sign
sign-with false c n = refl
sign-with true zero n = absurd (n refl)
sign-with true (suc c) n = refl

pub stripped-above : {n c z : ℕ} → Stripped n c z → (n ≡ 0 → ⊥) → c ≡ 0 → ⊥
stripped-above {n} {c} {z} s h e = h (s.same ∙ ap (λ (m : ℕ). m * 10 ^ z) e ∙ zero-mul (10 ^ z))

module _ (f : Form) (small : Small (f.whole ++ f.fraction)) where
  zero_same : digits_number f ≡ 0 → Same (said f) (held D.zero)
  unfolding up down is_negative
  zero_same e = record { crosswise = ap (λ (m : ℕ). m * 10 ^ up (scale f) * 10 ^ 0) e ∙ omega arith; signs = λ n. absurd (n e) }

  other-same : (digits_number f ≡ 0 → ⊥) → Same (said f) (held (record { coefficient = with_sign f.negative (digits_number f / 10 ^ trailing f); power = scale f +ℤ pos (trailing f) }))
  other-same n =
      let s : Stripped (digits_number f) (digits_number f / 10 ^ trailing f) (trailing f) = own_pair f small n in
      rw (size-with f.negative (digits_number f / 10 ^ trailing f))
      (record {
        crosswise = crosswise-moved (digits_number f) (digits_number f / 10 ^ trailing f) (trailing f) (scale f) s.same;
        signs = λ m. sign-with f.negative (digits_number f / 10 ^ trailing f)
            (stripped-above s n);
      })

  pub normal-same : Same (said f) (held (normal f))
  normal-same = go (eqb (digits_number f) 0) refl
    where
      go : (b : Bool) → eqb (digits_number f) 0 ≡ b → Same (said f) (held (normal f))
      go true e = rw (normal-zero f (eqb-true (digits_number f) 0 e)) (zero_same (eqb-true (digits_number f) 0 e))
      go false e = rw (normal-other f (eqb-false (digits_number f) 0 e)) (other-same (eqb-false (digits_number f) 0 e))

-- an accepted token says the coefficient times 10 to the power
pub value : (t : List ℕ) (d : Decimal) → token_of t ≡ Ok d → (f : Form) × (form_of t ≡ some f) × Same (said f) (held d)
value t d e =
    let a : Accepted t d = accepted t d e in
    let f : Form = form_said t a.right in
    (f, right-form t a.right, subst (λ (x : Decimal). Same (said f) (held x)) (sym a.is) (normal-same f (form_small t f (right-form t a.right))))

-- and one out of bounds says the coefficient times 10 to the power of the pair that is beyond the limits, if it is not the token that is too long
pub beyond : (t : List ℕ) → token_of t ≡ (Err OutOfBounds) → (b : Beyond t) × Same (said (form_said t b.right)) (held (normal (form_said t b.right)))
beyond t e =
    let b : Beyond t = (tells-apart t).out_of_bounds.0 e in
    (b, normal-same (form_said t b.right) (form_small t (form_said t b.right) (right-form t b.right)))
