-- Document 02, W-202, Range with one end: it 'clamps there'; 'x beyond the limit (-0 is not beyond 0), or NaN, becomes the limit.'
use Rattle.std.specs.Prelude.{◌≡◌, Bool, true, false, cond, ◌||◌, Float}
use Rattle.std.specs.Float.Ieee.{lt, is_nan}
use Rattle.process_list.specs.declared.RangeEnd.{RangeEnd}
use Rattle.process_list.specs.declared.RangeEnd.TheVariants.{Minimum, Maximum}
use Rattle.pixel.specs.declared.Pixel.{Pixel}
use Rattle.pixel.specs.declared.CodeValue.{CodeValue}

-- 'x beyond the limit': below a minimum, above a maximum, as IEEE 754 compares. So -0 is not beyond 0, and a NaN is beyond nothing
unfoldable pub beyond : RangeEnd → Float → Float → Bool
beyond Minimum limit x = lt x limit
beyond Maximum limit x = lt limit x

-- 'x beyond the limit .., or NaN, becomes the limit'; everything else stays as it is
unfoldable pub limited : RangeEnd → Float → CodeValue → CodeValue
limited end limit x = record { 0 = cond (is_nan x.0 || beyond end limit x.0) limit x.0 }

-- a pixel: each component by itself. It is carried 'where the depths are equal', so that code values stay code values
unfoldable pub limited_pixel : RangeEnd → Float → Pixel → Pixel
limited_pixel end limit x = record {
  r = (limited end limit (record { 0 = x.r })).0;
  g = (limited end limit (record { 0 = x.g })).0;
  b = (limited end limit (record { 0 = x.b })).0;
}

-- ---- what a Range with one end promises

-- not beyond the limit, and no NaN
pub record Inside (end : RangeEnd) (limit y : Float) : Type 0 where
  pub not_beyond : beyond end limit y ≡ false
  pub known : is_nan y ≡ false

-- y is what came out for x: not beyond the limit and no NaN, where the limit is no NaN (that of a list's node never is one); x itself if it was neither; the limit if it was beyond, or a NaN
pub record KeepsEnd (end : RangeEnd) (limit x y : Float) : Type 0 where
  pub inside : is_nan limit ≡ false → Inside end limit y
  pub kept : is_nan x ≡ false → beyond end limit x ≡ false → y ≡ x
  pub clamped : beyond end limit x ≡ true → y ≡ limit
  pub replaced : is_nan x ≡ true → y ≡ limit

-- the same of every component of a pixel
pub record InsidePixel (end : RangeEnd) (limit : Float) (y : Pixel) : Type 0 where
  pub red : Inside end limit y.r
  pub green : Inside end limit y.g
  pub blue : Inside end limit y.b

pub record KeepsEndPixel (end : RangeEnd) (limit : Float) (x y : Pixel) : Type 0 where
  pub red : KeepsEnd end limit x.r y.r
  pub green : KeepsEnd end limit x.g y.g
  pub blue : KeepsEnd end limit x.b y.b
