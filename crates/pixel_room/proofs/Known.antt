-- No number of a table room is a NaN, whatever the room holds: a whole number rounds to no NaN, and neither a product with a power of ten nor a quotient by one is one. Assumes nothing.
use mathlib.Core.Path.{◌≡◌, refl, ap, ◌∙◌}
use mathlib.Core.Bool.{Bool, true, false, not, cond}
use Prim.Native.Nat.{ℕ, zero, suc, ◌+◌, ◌*◌, ◌^◌, ◌≤◌, ◌<◌}
use native.Mathlib.Nat.{mul-one, mul-pos, zero-mul, one-le-pow, zero-lt-suc}
use native.Mathlib.Omega.{arith}
use borrow.Author.Tests.{ne_eqb, leb-true}
use lib.Dec.{T, ltb}
use lib.IntN.{ℤ, pos, negsuc}
use lib.ListN.{get_or}
use lib.Ieee.{Float, nan, inf, fin, binary64, prec, emax, low, up, down, unlike, odd, units, round, mul, div, of_int, of_bits, is_nan}
use lib.Ieee.Fits.{down_pos, round_is}
use lib.Ieee.Exact.{HasValue}
use lib.Ieee.Order.{kept, drop}
use Rattle.decimal.specs.declared.Decimal.{Decimal}
use Rattle.decimal.specs.Decimal.{size}
use Rattle.decimal_value.specs.Value.{whole_f64, ten_to, powered, carried_power, value_of}
use Rattle.decimal_value.proofs.Tens.{ten-exact}
use Rattle.pixel.specs.F64 as F64
use Rattle.room.specs.Room.{Room, room_length}
use Rattle.pixel_room.specs.Room.{number_at}

abbrev Known : Float → Type 0
Known x = T (not (is_nan x))

cond-known : (b : Bool) (x y : Float) → Known x → Known y → Known (cond b x y)
cond-known true x y p q = p
cond-known false x y p q = q

odd-known : (d : ℕ) (s : Bool) (q k l : ℕ) → Known (odd d s q k l)
unfolding odd is_nan
odd-known d s zero k l = tt
odd-known d s (suc q) k l = tt

units-known : (s : Bool) (q k : ℕ) → Known (units binary64 s q k)
unfolding units is_nan
units-known s q k =
    cond-known (ltb (q * 2 ^ k) (2 ^ (low binary64 + suc (emax binary64)))) (odd (suc (prec binary64)) s q k (low binary64)) (inf s)
    (odd-known (suc (prec binary64)) s q k (low binary64)) tt

round-known : (s : Bool) (a b : ℕ) → Known (round binary64 s a b)
round-known s a b = rw (round_is binary64 s a b) (units-known s (kept 53 (a * 2 ^ low binary64) b) (drop 53 (a * 2 ^ low binary64) b))

-- ---- times and by a value above 0
not_none : (n u b d : ℕ) → 0 < b → 0 < d → n * u * 1 ≡ b * d → n ≡ 0 → ⊥
not_none n u b d B D e z =
    let w : n * u ≡ 0 = ap (λ (k : ℕ). k * u) z ∙ zero-mul u in
    omega (arith, mul-one (n * u), mul-pos B D)

mul-known : (x y : Float) (b : ℕ) → 0 < b → Known x → HasValue y false b 1 → Known (mul binary64 x y)
unfolding mul is_nan
mul-known nan y b B p v = absurd p
mul-known (inf s) nan b B p v = absurd v
mul-known (inf s) (inf t) b B p v = absurd v
mul-known (inf s) (fin t n d) b B p v = rw (ne_eqb n 0 (not_none n (up d) b (down d) B (down_pos d) v.1)) tt
mul-known (fin s m e) nan b B p v = absurd v
mul-known (fin s m e) (inf t) b B p v = absurd v
mul-known (fin s m e) (fin t n d) b B p v = round-known (unlike s t) (m * up e * (n * up d)) (down e * down d)

div_known : (x y : Float) (b : ℕ) → 0 < b → Known x → HasValue y false b 1 → Known (div binary64 x y)
unfolding div is_nan
div_known nan y b B p v = absurd p
div_known (inf s) nan b B p v = absurd v
div_known (inf s) (inf t) b B p v = absurd v
div_known (inf s) (fin t n d) b B p v = tt
div_known (fin s m e) nan b B p v = absurd v
div_known (fin s m e) (inf t) b B p v = absurd v
div_known (fin s m e) (fin t n d) b B p v = rw (ne_eqb n 0 (not_none n (up d) b (down d) B (down_pos d) v.1)) (round-known (unlike s t) (m * up e * down d) (n * up d * down e))

-- ---- the numbers of the room
whole-known : (z : ℤ) → Known (whole_f64 z)
unfolding of_int
whole-known (pos n) = round-known false n 1
whole-known (negsuc n) = round-known true (suc n) 1

tens : (k : ℕ) → 0 < 10 ^ k
tens k = one-le-pow k 10 (zero-lt-suc 9)

powered-known : (x : Float) (z : ℤ) → Known x → size z ≤ 22 → Known (powered x z)
unfolding powered
powered-known x (pos k) p h = mul-known x (ten_to k) (10 ^ k) (tens k) p (ten-exact k (omega arith))
powered-known x (negsuc k) p h = div_known x (ten_to (suc k)) (10 ^ suc k) (tens (suc k)) p (ten-exact (suc k) (omega arith))

value-known : (d : Decimal) → Known (value_of d)
unfolding value_of
value-known d = go (carried_power d.power) refl
  where
    go : (q : Bool) → carried_power d.power ≡ q → Known (cond q (powered (whole_f64 d.coefficient) d.power) (whole_f64 (pos 0)))
    go true e = powered-known (whole_f64 d.coefficient) d.power (whole-known d.coefficient) (leb-true _ _ e)
    go false e = whole-known (pos 0)

pub number-known : (m : Room) (k : ℕ) → T (not (is_nan (number_at m k)))
unfolding number_at of_bits is_nan
number-known m k =
    let d : Decimal = record { coefficient = get_or m.coefficients k (pos 0); power = get_or m.powers k (pos 0) } in
    cond-known (ltb k (room_length m)) (value_of d) F64.zero (value-known d) tt
