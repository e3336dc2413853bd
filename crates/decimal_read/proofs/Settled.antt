-- The reader's last step gives what the definition says of the form: the number, or that it is out of range. Assumes nothing.
use Prim.Native.Nat.{ℕ, ◌+◌, ◌*◌, ◌^◌, ◌/◌, ◌≤◌, ◌<◌}
use mathlib.Core.Path.{◌≡◌, refl, sym, ap, ◌∙◌}
use mathlib.Core.Bool.{Bool, true, false, cond, ◌&&◌}
use mathlib.Core.List.{◌++◌}
use mathlib.Core.Option.{some}
use native.Mathlib.Nat.{mul_assoc, zero-mul, le-mul_of_pos_right}
use native.Mathlib.Omega.{arith}
use borrow.Author.Tests.{eqb-true, eqb-false, eq-eqb, ne_eqb, le-leb}
use lib.Dec.{eqb, leb}
use lib.IntN.{ℤ, pos, sub_ℕ, ◌+ℤ◌}
use lib.ListN.{length}
use lib.Pow.{pow-add}
use Rattle.decimal.specs.Decimal as D
use Rattle.decimal.specs.Decimal.{Token}
use Rattle.std.specs.Prelude.{Ok, Err}
use Rattle.decimal.specs.declared.NumberFault.TheVariants.{OutOfBounds}
use Rattle.decimal_read.specs.declared.Held.{Held}
use Rattle.decimal_read.specs.Number.{Form, digits_number, scale, zeros, trailing, normal, with_sign, token_by}
use Rattle.decimal_read.specs.Steps.{zeros_of, coefficient_of, ranged, settled}
use Rattle.decimal_read.proofs.Zeros.{Stripped, found, one-pair, pow-above, least}
use Rattle.decimal_read.proofs.Stands.{Small, Stands, exact, lost, append-lt}
use Rattle.decimal_read.proofs.Ranged.{accepted, refused, big, ranged-is}

-- ── The normal form by its two laws: zero is zero, and any other number is its one stripped pair ──

module _ (f : Form) where
  pub normal-zero : digits_number f ≡ 0 → normal f ≡ D.zero
  unfolding normal
  normal-zero e = rw (eq-eqb (digits_number f) 0 e)

  pub digits_lt : Small (f.whole ++ f.fraction) → digits_number f < 10 ^ length (f.whole ++ f.fraction)
  unfolding digits_number
  digits_lt s = omega (arith, append-lt 0 s)

  pub own_pair : Small (f.whole ++ f.fraction) → (digits_number f ≡ 0 → ⊥) → Stripped (digits_number f) (digits_number f / 10 ^ trailing f) (trailing f)
  unfolding trailing
  own_pair s n = found (length (f.whole ++ f.fraction)) (digits_number f) (omega arith) (digits_lt s)

  pub normal-other : (digits_number f ≡ 0 → ⊥) → normal f ≡ record { coefficient = with_sign f.negative (digits_number f / 10 ^ trailing f); power = scale f +ℤ pos (trailing f) }
  unfolding normal
  normal-other n = rw (ne_eqb (digits_number f) 0 n)

  pub normal-is : Small (f.whole ++ f.fraction) → (digits_number f ≡ 0 → ⊥) → {c z : ℕ} → Stripped (digits_number f) c z
      → normal f ≡ record { coefficient = with_sign f.negative c; power = scale f +ℤ pos z }
  normal-is s n {c} {z} p = go (one-pair (own_pair s n) p)
    where
      go : (digits_number f / 10 ^ trailing f ≡ c) × (trailing f ≡ z) → normal f ≡ record { coefficient = with_sign f.negative c; power = scale f +ℤ pos z }
      go q = normal-other n ∙ (λ i. record { coefficient = with_sign f.negative (q.0 i); power = scale f +ℤ pos (q.1 i) })

-- ── The code's numbers ──

pub own : (v : ℕ) → 0 < v → v < 10 ^ 19 → Stripped v (coefficient_of v) (zeros_of v)
unfolding coefficient_of zeros_of
own v p h = found 20 v p (omega arith)

-- the zeros that were dropped are zeros of the number
with-dropped : (n v k c z : ℕ) → n ≡ v * 10 ^ k → Stripped v c z → Stripped n c (z + k)
with-dropped n v k c z e s = record { same = e ∙ ap (λ (m : ℕ). m * 10 ^ k) s.same ∙ mul_assoc c (10 ^ z) (10 ^ k) ∙ ap (λ (m : ℕ). c * m) (sym (pow-add 10 z k)); ends = s.ends }

lost-is : coefficient_of (10 ^ 18 + 1) ≡ 10 ^ 18 + 1
unfolding coefficient_of zeros_of zeros
lost-is = refl

too_large : (s : Bool) (c a b : ℕ) → 10 ^ 15 ≤ c → ranged s c a b ≡ (Err OutOfBounds)
unfolding ranged
too_large s c a b h = rw (le-leb (10 ^ 15) c h)

-- ── The last step ──

module _ (f : Form) (h : Held) (up down : ℕ) (small : Small (f.whole ++ f.fraction)) (fits : h.value < 10 ^ 19)
    (stands : Stands (digits_number f) h) (power : (m : ℕ) → scale f +ℤ pos m ≡ sub_ℕ (up + m) (length f.fraction + down)) where
  abbrev reached : Token
  reached = ranged f.negative (coefficient_of h.value) (22 + h.dropped + zeros_of h.value + up) (length f.fraction + down)

  none : h.value ≡ 0 → Stands (digits_number f) h → digits_number f ≡ 0
  none z (exact e p) = e ∙ ap (λ (v : ℕ). v * 10 ^ h.dropped) z ∙ zero-mul (10 ^ h.dropped)
  none z (lost e s l) = absurd (omega arith)

  exactly : (h.value ≡ 0 → ⊥) → digits_number f ≡ h.value * 10 ^ h.dropped → reached ≡ accepted (normal f)
  exactly n e =
      let v : ℕ = h.value in
      let k : ℕ = h.dropped in
      let z : ℕ = zeros_of v + k in
      let c : ℕ = coefficient_of v in
      let nz : digits_number f ≡ 0 → ⊥ = λ q. n (omega (arith, e, q, le-mul_of_pos_right v (pow-above k))) in
      let pair : Stripped (digits_number f) c z = with-dropped (digits_number f) v k c (zeros_of v) e (own v (omega arith) fits) in
      ap (λ (m : ℕ). ranged f.negative c m (length f.fraction + down)) (omega arith) ∙
      ranged-is f.negative c (up + z) (length f.fraction + down) ∙
      ap accepted (sym (normal-is f small nz pair ∙ ap (λ (y : ℤ). record { coefficient = with_sign f.negative c; power = y }) (power z)))

  never : {q j : ℕ} → h.value ≡ 10 ^ 18 + 1 → Stripped (digits_number f) q j → 10 ^ 18 ≤ q → reached ≡ accepted (normal f)
  never {q} {j} e s l =
      let nz : digits_number f ≡ 0 → ⊥ = λ d. omega (arith, least s) in
      too_large f.negative (coefficient_of h.value) _ _ (omega (arith, ap coefficient_of e ∙ lost-is)) ∙
      refused (normal f) (ap D.in_range (normal-is f small nz s) ∙ big f.negative q (scale f +ℤ pos j) (omega arith))

  other : (h.value ≡ 0 → ⊥) → Stands (digits_number f) h → reached ≡ accepted (normal f)
  other n (exact e p) = exactly n e
  other n (lost e s l) = never e s l

  core : (t : Bool) → eqb h.value 0 ≡ t → cond t (Ok D.zero) reached ≡ accepted (normal f)
  core true e = ap accepted (sym (normal-zero f (none (eqb-true h.value 0 e) stands)))
  core false e = other (eqb-false h.value 0 e) stands

  pub settled_is : (n : ℕ) → settled f.negative n h (length f.fraction) up down ≡ token_by n (some f)
  unfolding settled token_by
  settled_is n = go (leb n 64)
    where
      go : (t : Bool) → cond t (cond (eqb h.value 0) (Ok D.zero) reached) (Err OutOfBounds) ≡ cond (t && D.in_range (normal f)) (Ok (normal f)) (Err OutOfBounds)
      go true = core (eqb h.value 0) refl
      go false = refl
