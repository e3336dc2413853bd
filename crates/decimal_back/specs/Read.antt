-- What is read can be written: a number that a token stands for is in range and normal. Assumes nothing.
use Rattle.std.specs.Prelude.{◌≡◌, Bool, cond, ◌&&◌, List, ◌++◌, ℕ, zero, suc, ◌+◌, ◌/◌, ◌%◌, ◌^◌, ◌<◌, leb, ◌+ℤ◌, length}
use Rattle.std.proofs.Math.Path.{refl}
use Rattle.std.proofs.Common.{sym, ap, ◌∙◌, subst, arith}
use Rattle.std.proofs.Math.Bool.{true, false}
use Rattle.std.proofs.Math.Option.{none, some}
use borrow.Author.Tests.{ne_eqb, eqb-false}
use Rattle.std.proofs.Math.Dec.{eqb}
use Rattle.std.proofs.Math.IntN.{pos}
use Rattle.decimal.specs.declared.Decimal.{Decimal}
use Rattle.std.specs.Prelude.{Ok, Err}
use Rattle.decimal.specs.declared.NumberFault.TheVariants.{OutOfBounds}
use Rattle.decimal.specs.Decimal.{size, in_range}
use Rattle.decimal_read.specs.Number.{Form, behind_sign, digits_of, behind_digits, fraction_of, behind_fraction, is_exponent, form_of, append, with_sign, scale, trailing, token_by, token_of}
use Rattle.decimal_read.specs.Number as Read
use Rattle.decimal_read.proofs.Zeros.{Stripped, found}
use Rattle.decimal_read.proofs.Stands.{Small, digits-small, fraction-small, both_small, append-lt}
use Rattle.decimal_write.specs.Written.{is_normal}

signed-size : (s : Bool) (n : ℕ) → size (with_sign s n) ≡ n
unfolding with_sign
signed-size false n = refl
signed-size true zero = refl
signed-size true (suc n) = refl

-- a coefficient whose size ends in no zero
ended : (d : Decimal) → (size d.coefficient % 10 ≡ 0 → ⊥) → is_normal d ≡ true
unfolding is_normal
ended d h = rw (ne_eqb (size d.coefficient % 10) 0 h)

-- ---- the number of a form whose digits are digits
module _ (f : Form) (small : Small (f.whole ++ f.fraction)) where
  stripped : 0 < Read.digits_number f → Stripped (Read.digits_number f) (Read.digits_number f / 10 ^ trailing f) (trailing f)
  unfolding Read.digits_number trailing
  stripped p = found (length (f.whole ++ f.fraction)) (append 0 (f.whole ++ f.fraction)) p (omega (arith, append-lt 0 small))

  pub form-normal : is_normal (Read.normal f) ≡ true
  unfolding Read.normal
  form-normal = go (eqb (Read.digits_number f) 0) refl
    where
      go : (t : Bool) → eqb (Read.digits_number f) 0 ≡ t
          → is_normal (cond t (record { coefficient = pos 0; power = pos 0 })
          (record { coefficient = with_sign f.negative (Read.digits_number f / 10 ^ trailing f); power = scale f +ℤ pos (trailing f) })) ≡ true
      go true e = unfold is_normal in refl
      go false e =
          ended (record { coefficient = with_sign f.negative (Read.digits_number f / 10 ^ trailing f); power = scale f +ℤ pos (trailing f) })
          (λ z. (stripped (let n = eqb-false (Read.digits_number f) 0 e in omega arith)).ends (ap (λ (k : ℕ). k % 10) (sym (signed-size f.negative (Read.digits_number f / 10 ^ trailing f))) ∙ z))

-- ---- the number of a token
judged-held : (k : ℕ) (f : Form) (d : Decimal) → Small (f.whole ++ f.fraction) → token_by k (some f) ≡ Ok d → (in_range d ≡ true) × (is_normal d ≡ true)
unfolding token_by
judged-held k f d small = go (leb k 64) (in_range (Read.normal f)) refl
  where
    go : (a b : Bool) → in_range (Read.normal f) ≡ b → cond (a && b) (Ok (Read.normal f)) (Err OutOfBounds) ≡ Ok d → (in_range d ≡ true) × (is_normal d ≡ true)
    go true true r e = let g : Read.normal f ≡ d = cc in (subst (λ (x : Decimal). in_range x ≡ true) g r, subst (λ (x : Decimal). is_normal x ≡ true) g (form-normal f small))
    go true false r e = absurd (let z : ◌≡◌ {A = ℕ} 0 1 = cc in omega arith)
    go false b r e = absurd (let z : ◌≡◌ {A = ℕ} 0 1 = cc in omega arith)

none_read : (d : Decimal) (k : ℕ) → token_by k none ≡ Ok d → ⊥
unfolding token_by
none_read d k e = let z : ◌≡◌ {A = ℕ} 0 1 = cc in omega arith

-- a number that a token stands for is in range and normal
pub read_held : (l : List ℕ) (d : Decimal) → token_of l ≡ Ok d → (in_range d ≡ true) × (is_normal d ≡ true)
unfolding token_of form_of
read_held l d = go (leb 1 (length (digits_of (behind_sign l)) + length (fraction_of (behind_digits (behind_sign l)))) && is_exponent (behind_fraction (behind_digits (behind_sign l))))
  where
    f : Form
    f =
        record {
          negative = Read.is_minus l;
          whole = digits_of (behind_sign l);
          fraction = fraction_of (behind_digits (behind_sign l));
          down = Read.exponent_minus (behind_fraction (behind_digits (behind_sign l)));
          exponent = Read.exponent_digits (behind_fraction (behind_digits (behind_sign l)));
        }

    go : (t : Bool) → token_by (length l) (cond t (some f) none) ≡ Ok d → (in_range d ≡ true) × (is_normal d ≡ true)
    go true e = judged-held (length l) f d (both_small (digits-small (behind_sign l)) (fraction-small (behind_digits (behind_sign l)))) e
    go false e = absurd (none_read d (length l) e)
