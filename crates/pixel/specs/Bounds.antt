-- Bounds on a value and on a pixel, as IEEE 754 compares. A NaN lies between no two values.
use Rattle.std.specs.Prelude.{T, Float}
use Rattle.std.specs.Float.Ieee.{le}
use Rattle.pixel.specs.declared.Pixel.{Pixel}

-- lo ≤ x ≤ hi
pub record Between (lo hi x : Float) : Type 0 where
  pub low : T (le lo x)
  pub high : T (le x hi)

-- every component between lo and hi
pub record Within (lo hi : Float) (x : Pixel) : Type 0 where
  pub red : Between lo hi x.r
  pub green : Between lo hi x.g
  pub blue : Between lo hi x.b
