-- (b) Two accepted tokens of one value give one coefficient and one power; and what is accepted is in normal form. Assumes nothing.
use mathlib.Core.Path.{◌≡◌, refl, sym, ap, ◌∙◌, subst}
use mathlib.Core.Bool.{Bool, true, false}
use mathlib.Core.List.{List, ◌++◌}
use mathlib.Core.Option.{some, some-injective}
use Prim.Native.Nat.{ℕ, zero, suc, ◌+◌, ◌*◌, ◌^◌, ◌/◌, ◌%◌, ◌≤◌, ◌<◌}
use native.Mathlib.Nat.{zero-mul, mul-pos, zero-lt-suc}
use native.Mathlib.Omega.{arith}
use borrow.Author.Tests.{eqb-true, eqb-false, ltb-true, ltb-false}
use lib.Dec.{ltb, eqb}
use lib.IntN.{ℤ, pos, negsuc, sub_ℕ, ◌+ℤ◌}
use Rattle.decimal.specs.Decimal as D
use Rattle.decimal.specs.declared.Decimal.{Decimal}
use Rattle.std.specs.Prelude.{Ok}
use Rattle.decimal_read.specs.Number.{Form, digits_number, scale, trailing, with_sign, normal, form_of, token_of}
use Rattle.decimal_read.proofs.Zeros.{Stripped, unique, pow-above}
use Rattle.decimal_read.proofs.Stands.{Small}
use Rattle.decimal_read.proofs.Ranged.{sub-lt, sub-ge, size-with}
use Rattle.decimal_read.proofs.Settled.{own_pair, normal-zero, normal-other}
use Rattle.decimal_laws.specs.Value.{up, down, Same, said, Normal}
use Rattle.decimal_read.specs.RightForm.{form_said}
use Rattle.decimal_read.specs.Told.{Accepted}
use Rattle.decimal_read.proofs.RightForms.{right-form}
use Rattle.decimal_laws.proofs.Accepted.{accepted, form_small}
use Rattle.decimal_laws.proofs.Valued.{powers, stripped-above}

-- ── Powers ──

sub_same : (a b x y : ℕ) → a + y ≡ x + b → sub_ℕ a b ≡ sub_ℕ x y
sub_same a b x y e = go (ltb a b) refl
  where
    go : (t : Bool) → ltb a b ≡ t → sub_ℕ a b ≡ sub_ℕ x y
    go true q = let l : a < b = ltb-true a b q in sub-lt a b l ∙ ap negsuc (omega arith) ∙ sym (sub-lt x y (omega arith))
    go false q = let l : b ≤ a = ltb-false a b q in sub-ge a b l ∙ ap pos (omega arith) ∙ sym (sub-ge x y (omega arith))

as-difference : (p : ℤ) (z : ℕ) → p +ℤ pos z ≡ sub_ℕ (up p + z) (down p)
unfolding up down
as-difference (pos n) z = ap pos (omega arith) ∙ sym (sub-ge (n + z) 0 (omega arith))
as-difference (negsuc n) z = ap (λ (m : ℕ). sub_ℕ m (suc n)) (omega arith)

-- ── Two forms of one value ──

above_zero : (n a b : ℕ) → n * 10 ^ a * 10 ^ b ≡ 0 → n ≡ 0
above_zero zero a b e = refl
above_zero (suc n) a b e = absurd (omega (arith, e, mul-pos (mul-pos (zero-lt-suc n) (pow-above a)) (pow-above b)))

module _ (f g : Form) (fs : Small (f.whole ++ f.fraction)) (gs : Small (g.whole ++ g.fraction)) (same : Same (said f) (said g)) where
  both_zero : digits_number f ≡ 0 → digits_number g ≡ 0
  both_zero e =
      above_zero (digits_number g) (up (scale g)) (down (scale f))
      (sym same.crosswise ∙ ap (λ (m : ℕ). m * 10 ^ up (scale f) * 10 ^ down (scale g)) e ∙ omega (arith, zero-mul (10 ^ up (scale f)), zero-mul (10 ^ down (scale g))))

  other-zero : digits_number g ≡ 0 → digits_number f ≡ 0
  other-zero e =
      above_zero (digits_number f) (up (scale f)) (down (scale g))
      (same.crosswise ∙ ap (λ (m : ℕ). m * 10 ^ up (scale g) * 10 ^ down (scale f)) e ∙ omega (arith, zero-mul (10 ^ up (scale g)), zero-mul (10 ^ down (scale f))))

  abbrev c : Form → ℕ
  c h = digits_number h / 10 ^ trailing h

  spread : (h k : Form) → Stripped (digits_number h) (c h) (trailing h) → digits_number h * 10 ^ up (scale h) * 10 ^ down (scale k) ≡ c h * 10 ^ (trailing h + up (scale h) + down (scale k))
  spread h k s =
      ap (λ (m : ℕ). m * 10 ^ up (scale h) * 10 ^ down (scale k)) s.same ∙ ap (λ (m : ℕ). m * 10 ^ down (scale k)) (powers (c h) (trailing h) (up (scale h)))
      ∙ powers (c h) (trailing h + up (scale h)) (down (scale k))

  other-form : (digits_number f ≡ 0 → ⊥) → normal f ≡ normal g
  other-form n =
      let m : digits_number g ≡ 0 → ⊥ = λ e. n (other-zero e) in
      let s : Stripped (digits_number f) (c f) (trailing f) = own_pair f fs n in
      let r : Stripped (digits_number g) (c g) (trailing g) = own_pair g gs m in
      let q : (c f ≡ c g) × (trailing f + up (scale f) + down (scale g) ≡ trailing g + up (scale g) + down (scale f)) =
      unique (c f) (trailing f + up (scale f) + down (scale g)) (c g) (trailing g + up (scale g) + down (scale f)) s.ends r.ends (sym (spread f g s) ∙ same.crosswise ∙ spread g f r) in
      let p : scale f +ℤ pos (trailing f) ≡ scale g +ℤ pos (trailing g) =
      as-difference (scale f) (trailing f) ∙ sub_same (up (scale f) + trailing f) (down (scale f)) (up (scale g) + trailing g) (down (scale g)) (omega (arith, q.1))
      ∙ sym (as-difference (scale g) (trailing g)) in
      normal-other f n ∙ (λ i. record { coefficient = with_sign (same.signs n i) (q.0 i); power = p i }) ∙ sym (normal-other g m)

  pub one-normal : normal f ≡ normal g
  one-normal = go (eqb (digits_number f) 0) refl
    where
      go : (b : Bool) → eqb (digits_number f) 0 ≡ b → normal f ≡ normal g
      go true e = let z : digits_number f ≡ 0 = eqb-true (digits_number f) 0 e in normal-zero f z ∙ sym (normal-zero g (both_zero z))
      go false e = other-form (eqb-false (digits_number f) 0 e)

-- (b)
pub one_number : (t u : List ℕ) (d e : Decimal) (f g : Form) → token_of t ≡ Ok d → token_of u ≡ Ok e → form_of t ≡ some f → form_of u ≡ some g → Same (said f) (said g) → d ≡ e
one_number t u d e f g p q v w s =
    let a : Accepted t d = accepted t d p in
    let b : Accepted u e = accepted u e q in
    let k : normal (form_said t a.right) ≡ normal f = ap normal (some-injective (form_said t a.right) f (sym (right-form t a.right) ∙ v)) in
    let l : normal (form_said u b.right) ≡ normal g = ap normal (some-injective (form_said u b.right) g (sym (right-form u b.right) ∙ w)) in
    a.is ∙ k ∙ one-normal f g (form_small t f v) (form_small u g w) s ∙ sym (b.is ∙ l)

-- ── What is accepted is in normal form ──

zero-normal : Normal D.zero
zero-normal = record { within = refl; zero = λ e. refl; ends = λ n e. n refl }

other-normal : (f : Form) → Small (f.whole ++ f.fraction) → (digits_number f ≡ 0 → ⊥)
    → D.in_range (record { coefficient = with_sign f.negative (digits_number f / 10 ^ trailing f); power = scale f +ℤ pos (trailing f) }) ≡ true
    → Normal (record { coefficient = with_sign f.negative (digits_number f / 10 ^ trailing f); power = scale f +ℤ pos (trailing f) })
other-normal f small n h =
    let s : Stripped (digits_number f) (digits_number f / 10 ^ trailing f) (trailing f) = own_pair f small n in
    record {
      within = h;
      zero = λ e. absurd (stripped-above s n (sym (size-with f.negative (digits_number f / 10 ^ trailing f)) ∙ e));
      ends = λ m e. s.ends (ap (λ (k : ℕ). k % 10) (sym (size-with f.negative (digits_number f / 10 ^ trailing f))) ∙ e);
    }

form-normal : (f : Form) → Small (f.whole ++ f.fraction) → D.in_range (normal f) ≡ true → Normal (normal f)
form-normal f small h = go (eqb (digits_number f) 0) refl
  where
    go : (b : Bool) → eqb (digits_number f) 0 ≡ b → Normal (normal f)
    go true e = subst Normal (sym (normal-zero f (eqb-true (digits_number f) 0 e))) zero-normal
    go false e =
        let n : digits_number f ≡ 0 → ⊥ = eqb-false (digits_number f) 0 e in
        subst Normal (sym (normal-other f n)) (other-normal f small n (subst (λ (d : Decimal). D.in_range d ≡ true) (normal-other f n) h))

pub in-normal : (t : List ℕ) (d : Decimal) → token_of t ≡ Ok d → Normal d
in-normal t d e =
    let a : Accepted t d = accepted t d e in
    subst Normal (sym a.is) (form-normal (form_said t a.right) (form_small t (form_said t a.right) (right-form t a.right)) (ap D.in_range (sym a.is) ∙ a.within))
