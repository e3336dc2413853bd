-- The limits of a coefficient and a power, judged on natural numbers as the code does and on the whole numbers of the definition. Assumes nothing.
use Prim.Native.Nat.{ℕ, zero, suc, ◌+◌, ◌-◌, ◌^◌, ◌≤◌, ◌<◌}
use mathlib.Core.Path.{◌≡◌, refl, sym, ap, ◌∙◌, subst}
use mathlib.Core.Bool.{Bool, true, false, cond}
use native.Mathlib.Omega.{arith}
use borrow.Author.Tests.{ltb-true, ltb-false, leb-true, leb-false, lt-ltb, le-ltb, le-leb, lt-leb}
use lib.Dec.{ltb, leb}
use lib.IntN.{ℤ, pos, negsuc, neg_ℤ, sub_ℕ, ◌+ℤ◌, ◌-ℤ◌, +ℤ_assoc, +ℤ_comm, +ℤ_idl, neg_ℤ-+ℤ}
use lib.Signed.{mag}
use mir.Syntax.{w8, w64}
use mir.Val.{to_z, of_z, SFits}
use mir.ValLaws.{to_z-of_z, to_z_pos}
use Rattle.decimal.specs.Decimal.{size, in_range}
use Rattle.decimal.specs.declared.Decimal.{Decimal}
use Rattle.decimal.specs.Decimal.{Token}
use Rattle.std.specs.Prelude.{Ok, Err}
use Rattle.decimal.specs.declared.NumberFault.TheVariants.{OutOfBounds}
use Rattle.decimal_read.specs.Number.{with_sign}
use Rattle.decimal_read.specs.Steps.{ranged}

-- ── Differences of natural numbers ──

pub sub-lt : (a b : ℕ) → a < b → sub_ℕ a b ≡ negsuc (b - suc a)
sub-lt a b h = rw (lt-ltb a b h)

pub sub-ge : (a b : ℕ) → b ≤ a → sub_ℕ a b ≡ pos (a - b)
sub-ge a b h = rw (le-ltb a b h)

pub minus : (a b : ℕ) → pos a -ℤ pos b ≡ sub_ℕ a b
minus a zero = ap pos (omega arith) ∙ sym (sub-ge a 0 (omega arith))
minus a (suc b) = refl

-- an exponent up or down, b digits behind the point and m zeros moved into the power
pub power-up : (e b m : ℕ) → with_sign false e -ℤ pos b +ℤ pos m ≡ sub_ℕ (e + m) b
unfolding with_sign
power-up e b m = +ℤ_assoc (pos e) (neg_ℤ (pos b)) (pos m) ∙ ap (λ (z : ℤ). pos e +ℤ z) (+ℤ_comm (neg_ℤ (pos b)) (pos m)) ∙ sym (+ℤ_assoc (pos e) (pos m) (neg_ℤ (pos b))) ∙ minus (e + m) b

pub power-down : (e b m : ℕ) → with_sign true e -ℤ pos b +ℤ pos m ≡ sub_ℕ m (b + e)
unfolding with_sign
power-down e b m = ap (λ (z : ℤ). z +ℤ pos m) (sym (neg_ℤ-+ℤ (pos e) (pos b))) ∙ +ℤ_comm (neg_ℤ (pos (e + b))) (pos m) ∙ minus m (e + b) ∙ ap (λ (n : ℕ). sub_ℕ m n) (omega arith)

-- ── What the code computes with signed numbers ──

mag-neg : (n : ℕ) → mag (neg_ℤ (pos n)) ≤ n
mag-neg zero = omega arith
mag-neg (suc n) = omega arith

module _ (n : ℕ) (h : n < 10 ^ 15) where
  plain : to_z w64 n ≡ pos n
  plain = to_z_pos w64 n (omega arith)

  turned : pos 0 -ℤ to_z w64 n ≡ neg_ℤ (pos n)
  turned = ap (λ (z : ℤ). pos 0 -ℤ z) plain ∙ +ℤ_idl (neg_ℤ (pos n))

  pub minus-fits : SFits w64 (pos 0 -ℤ to_z w64 n)
  minus-fits = subst (λ (z : ℤ). SFits w64 z) (sym turned) (record { sfits = omega (arith, mag-neg n) })

  pub signed-down : (t : Bool) → t ≡ true → to_z w64 (of_z w64 (pos 0 -ℤ to_z w64 n)) ≡ with_sign t n
  unfolding with_sign
  signed-down t e = rw e (to_z-of_z w64 (pos 0 -ℤ to_z w64 n) minus-fits ∙ turned)

  pub signed_up : (t : Bool) → t ≡ false → to_z w64 n ≡ with_sign t n
  unfolding with_sign
  signed_up t e = rw e plain

  with-fits : (t : Bool) → SFits w64 (with_sign t n)
  unfolding with_sign
  with-fits true = record { sfits = omega (arith, mag-neg n) }
  with-fits false = record { sfits = omega arith }

mag-lowered : (n : ℕ) → n ≤ 44 → (t : Bool) → ltb n 22 ≡ t → mag (cond t (negsuc (22 - suc n)) (pos (n - 22))) < 128
mag-lowered n h true e = omega arith
mag-lowered n h false e = omega arith

-- ── The limits ──

abbrev pub accepted : Decimal → Token
accepted d = cond (in_range d) (Ok d) (Err OutOfBounds)

pub size-with : (t : Bool) (n : ℕ) → size (with_sign t n) ≡ n
unfolding with_sign
size-with false n = refl
size-with true zero = refl
size-with true (suc n) = refl

-- 22 is taken off again
back : (a b : ℕ) → b ≤ 22 + a → pos (22 + a - b) -ℤ pos 22 ≡ sub_ℕ a b
back a b h = go (ltb a b) refl
  where
    go : (t : Bool) → ltb a b ≡ t → sub_ℕ (22 + a - b) 22 ≡ sub_ℕ a b
    go true e = let l : a < b = ltb-true a b e in sub-lt (22 + a - b) 22 (omega arith) ∙ ap negsuc (omega arith) ∙ sym (sub-lt a b l)
    go false e = let l : b ≤ a = ltb-false a b e in sub-ge (22 + a - b) 22 (omega arith) ∙ ap pos (omega arith) ∙ sym (sub-ge a b l)

size-lt : (a b : ℕ) → a < b → size (sub_ℕ a b) ≡ b - a
size-lt a b h = ap size (sub-lt a b h) ∙ omega arith

size-ge : (a b : ℕ) → b ≤ a → size (sub_ℕ a b) ≡ a - b
size-ge a b h = ap size (sub-ge a b h)

size_small : (a b : ℕ) → b ≤ 22 + a → 22 + a ≤ 44 + b → size (sub_ℕ a b) ≤ 22
size_small a b h k = go (ltb a b) refl
  where
    go : (t : Bool) → ltb a b ≡ t → size (sub_ℕ a b) ≤ 22
    go true e = omega (arith, size-lt a b (ltb-true a b e), ltb-true a b e)
    go false e = omega (arith, size-ge a b (ltb-false a b e), ltb-false a b e)

pub refused : (d : Decimal) → in_range d ≡ false → (Err OutOfBounds) ≡ accepted d
refused d h = rw h

pub taken : (d : Decimal) → in_range d ≡ true → Ok d ≡ accepted d
taken d h = rw h

pub big : (s : Bool) (c : ℕ) (z : ℤ) → 10 ^ 15 ≤ c → in_range (record { coefficient = with_sign s c; power = z }) ≡ false
big s c z h = rw (size-with s c, le-ltb c (10 ^ 15) h)

fits : (s : Bool) (c : ℕ) (z : ℤ) → c < 10 ^ 15 → in_range (record { coefficient = with_sign s c; power = z }) ≡ leb (size z) 22
fits s c z h = rw (size-with s c, lt-ltb c (10 ^ 15) h)

module _ (s : Bool) (c a b : ℕ) where
  d : Decimal
  d = record { coefficient = with_sign s c; power = sub_ℕ a b }

  top : c < 10 ^ 15 → b ≤ 22 + a → (t : Bool) → ltb (44 + b) (22 + a) ≡ t → cond t (Err OutOfBounds) (Ok (record { coefficient = with_sign s c; power = pos (22 + a - b) -ℤ pos 22 })) ≡ accepted d
  unfolding d
  top h k true e = let l : 44 + b < 22 + a = ltb-true (44 + b) (22 + a) e in refused d (fits s c (sub_ℕ a b) h ∙ lt-leb (size (sub_ℕ a b)) 22 (omega (arith, size-ge a b (omega arith))))
  top h k false e =
      let l : 22 + a ≤ 44 + b = ltb-false (44 + b) (22 + a) e in ap (λ (z : ℤ). Ok (record { coefficient = with_sign s c; power = z })) (back a b k)
      ∙ taken d (fits s c (sub_ℕ a b) h ∙ le-leb (size (sub_ℕ a b)) 22 (size_small a b k l))

  bottom : c < 10 ^ 15 → (t : Bool) → ltb (22 + a) b ≡ t
      → cond t (Err OutOfBounds) (cond (ltb (44 + b) (22 + a)) (Err OutOfBounds) (Ok (record { coefficient = with_sign s c; power = pos (22 + a - b) -ℤ pos 22 }))) ≡ accepted d
  unfolding d
  bottom h true e = let l : 22 + a < b = ltb-true (22 + a) b e in refused d (fits s c (sub_ℕ a b) h ∙ lt-leb (size (sub_ℕ a b)) 22 (omega (arith, size-lt a b (omega arith))))
  bottom h false e = top h (ltb-false (22 + a) b e) (ltb (44 + b) (22 + a)) refl

  pub ranged-is : ranged s c (22 + a) b ≡ accepted (record { coefficient = with_sign s c; power = sub_ℕ a b })
  unfolding ranged d
  ranged-is = go (leb (10 ^ 15) c) refl
    where
      go : (t : Bool) → leb (10 ^ 15) c ≡ t
          → cond t (Err OutOfBounds) (cond (ltb (22 + a) b) (Err OutOfBounds) (cond (ltb (44 + b) (22 + a)) (Err OutOfBounds) (Ok (record { coefficient = with_sign s c; power = pos (22 + a - b) -ℤ pos 22 })))) ≡ accepted
          d
      go true e = refused d (big s c (sub_ℕ a b) (leb-true (10 ^ 15) c e))
      go false e = bottom (leb-false (10 ^ 15) c e) (ltb (22 + a) b) refl

-- what the code returns where nothing is out of range
pub in-range : (s : Bool) (c a b : ℕ) → c < 10 ^ 15 → b ≤ a → a ≤ 44 + b → (x y : ℤ) → x ≡ with_sign s c → y ≡ pos (a - b) -ℤ pos 22
    → Ok (record { coefficient = to_z w64 (of_z w64 x); power = to_z w8 (of_z w8 y) }) ≡ ranged s c a b
unfolding ranged
in-range s c a b h k l x y e d = rw (lt-leb (10 ^ 15) c h, le-ltb a b k, le-ltb (44 + b) a l) (λ i. Ok (record { coefficient = cs i; power = ps i }))
  where
    cs : to_z w64 (of_z w64 x) ≡ with_sign s c
    cs = ap (λ (z : ℤ). to_z w64 (of_z w64 z)) e ∙ to_z-of_z w64 (with_sign s c) (with-fits c h s)

    ps : to_z w8 (of_z w8 y) ≡ pos (a - b) -ℤ pos 22
    ps = ap (λ (z : ℤ). to_z w8 (of_z w8 z)) d ∙ to_z-of_z w8 (pos (a - b) -ℤ pos 22) (record { sfits = mag-lowered (a - b) (omega arith) (ltb (a - b) 22) refl })
