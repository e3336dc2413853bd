-- A hold between 0 and 1 is a maximum with 0, then a minimum with 1: what no order of the two tests changes, since 0 is below 1. Assumes nothing.
use Rattle.std.specs.Prelude.{◌≡◌, refl, Bool, true, false, not, cond, T, Float}
use Rattle.std.specs.Float.Ieee.{lt, le, eq, is_nan, of_bits}
use Rattle.pixel.specs.F64.{zero, one}
use Rattle.pixel.specs.Hold.{hold}
use Rattle.pixel.specs.Order.{not-above, lt-le, lt-right, le_trans}

unfoldable pub from_zero : Float → Float
from_zero x = cond (lt zero x) x zero

zero-known : T (not (is_nan zero))
unfolding is_nan of_bits
zero-known = tt

not-one-zero : T (le one zero) → ⊥
unfolding le lt eq of_bits
not-one-zero t = t

one-over : lt one zero ≡ false
unfolding lt of_bits
one-over = refl

-- what is not above 0 is not above 1
not-over : (x : Float) → lt zero x ≡ false → lt one x ≡ false
not-over x h = go (lt one x) refl
  where
    go : (q : Bool) → lt one x ≡ q → q ≡ false
    go true e = absurd (not-one-zero (le_trans one x zero (lt-le one x e) (not-above x zero (lt-right one x e) zero-known h)))
    go false e = refl

pub unit-hold : (x : Float) → cond (lt one (from_zero x)) one (from_zero x) ≡ hold x zero one
unfolding from_zero hold
unit-hold x = go (lt zero x) refl
  where
    go : (q : Bool) → lt zero x ≡ q → cond (lt one (cond q x zero)) one (cond q x zero) ≡ cond (lt one x) one (cond q x zero)
    go true e = refl
    go false e = simp (one-over, not-over x e)
