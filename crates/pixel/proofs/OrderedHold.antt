-- Between a lower and a higher bound the hold is a minimum with the higher, then a maximum with the lower. Assumes nothing.
use mathlib.Core.Path.{◌≡◌, refl}
use mathlib.Core.Bool.{Bool, true, false, cond}
use lib.Ieee.{Float, lt}
use Rattle.pixel.specs.Hold.{hold}
use Rattle.pixel.specs.OrderedHold.{not_above}

-- the second half of a hold, 'x if x > lo; else lo', after the first
pub ordered-hold : (x lo hi : Float) → lt lo hi ≡ true → cond (lt lo (not_above x hi)) (not_above x hi) lo ≡ hold x lo hi
unfolding not_above hold
ordered-hold x lo hi h = go (lt hi x)
  where
    go : (q : Bool) → cond (lt lo (cond q hi x)) (cond q hi x) lo ≡ cond q hi (cond (lt lo x) x lo)
    go true = simp h
    go false = refl
