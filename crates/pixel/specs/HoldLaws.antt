-- What is held lies between lo and hi, whatever it was, a NaN included; and a NaN gives lo. Assumes nothing.
use Rattle.std.specs.Prelude.{◌≡◌, refl, Bool, true, false, cond, T, Float}
use Rattle.std.specs.Float.{nan, inf, fin}
use Rattle.std.specs.Float.Ieee.{lt, le}
use Rattle.pixel.specs.Hold.{hold}
use Rattle.pixel.specs.Bounds.{Between}
use Rattle.pixel.specs.Order.{not-above, lt-le, lt-right, le_left, le_right, le_refl}

pub hold-between : (x lo hi : Float) → T (le lo hi) → Between lo hi (hold x lo hi)
unfolding hold
hold-between x lo hi h = go (lt hi x) (lt lo x) refl refl
  where
    go : (p q : Bool) → lt hi x ≡ p → lt lo x ≡ q → Between lo hi (cond p hi (cond q x lo))
    go true q a b = record { low = h; high = le_refl hi (le_right lo hi h) }
    go false true a b = record { low = lt-le lo x b; high = not-above x hi (lt-right lo x b) (le_right lo hi h) a }
    go false false a b = record { low = le_refl lo (le_left lo hi h); high = h }

no_above : (x : Float) → lt x nan ≡ false
unfolding lt
no_above nan = refl
no_above (inf s) = refl
no_above (fin s m e) = refl

pub hold-nan : (lo hi : Float) → hold nan lo hi ≡ lo
unfolding hold
hold-nan lo hi = simp (no_above hi, no_above lo)
