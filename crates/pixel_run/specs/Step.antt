-- A prepared node's step on a pixel. Document 01: 'A prepared node is one of four kinds: Range with four and CDL with ten numbers, each carrying its own f64 parameters; Matrix and
-- LUT1D with where their numbers stand. For a Matrix its three rows of four are handed over by value.' Document 02: 'a new kind or shape of node may be a prepared kind of its own'; LUT3D is one,
-- with where its numbers stand, and so is a Range with one end, with its limit.
use Rattle.std.specs.Prelude.{◌≡◌, false, List, T, Float}
use Rattle.std.specs.Float.Ieee.{le, is_nan}
use Rattle.pixel.specs.declared.Pixel.{Pixel}
use Rattle.pixel.specs.Range.{range_pixel}
use Rattle.pixel.specs.OneEnd.{limited_pixel}
use Rattle.pixel.specs.Matrix.{matrix_pixel}
use Rattle.pixel.specs.Cdl.{cdl_pixel}
use Rattle.pixel_lut.specs.Table.{lut1d_pixel}
use Rattle.pixel_cube.specs.Table.{lut3d_pixel}
use Rattle.pixel_run.specs.Each.{EachWithin, EachInside}
use Rattle.pixel_run.specs.declared.Prepared.{Prepared}
use Rattle.pixel_run.specs.declared.Prepared.TheVariants.{Range, Cdl, Matrix, Lut1d, Lut3d, OneEnd}
-- the table room, passed on to those who run nodes
use Rattle.room.specs.Room.{Room}

-- beside the node: the rows of a Matrix, the scales of its depths, and the table room
unfoldable pub step_pixel : Prepared → List (List Float) → Float → Float → Room → Pixel → Pixel
step_pixel (Range minIn maxIn minOut maxOut clamp) rows inScale outScale m x = range_pixel minIn maxIn minOut maxOut clamp x
step_pixel (Cdl slopeR slopeG slopeB offsetR offsetG offsetB powerR powerG powerB sat clamp) rows inScale outScale m x =
    cdl_pixel slopeR slopeG slopeB offsetR offsetG offsetB sat clamp inScale outScale x
step_pixel (Matrix at wide) rows inScale outScale m x = matrix_pixel rows wide x
step_pixel (Lut1d at n columns) rows inScale outScale m x = lut1d_pixel m at n columns inScale x
step_pixel (Lut3d at n interpolation) rows inScale outScale m x = lut3d_pixel m at n interpolation inScale x
step_pixel (OneEnd end limit) rows inScale outScale m x = limited_pixel end limit x

-- 'Clamp holds it between minOut and maxOut': what a slice that has gone through a Range with four values and style Clamp keeps, whatever went in, NaN and infinities included; and through a Range with one end:
-- nothing beyond its limit, and no NaN. A limit out of a room is no NaN (`number-known` of `pixel_room/proofs/Known`)
unfoldable pub ClampHolds : Prepared → List Float → Type 0
ClampHolds (Range minIn maxIn minOut maxOut clamp) xs = T clamp → T (le minOut maxOut) → EachWithin minOut maxOut xs
ClampHolds (Cdl slopeR slopeG slopeB offsetR offsetG offsetB powerR powerG powerB sat clamp) xs = Unit
ClampHolds (Matrix at wide) xs = Unit
ClampHolds (Lut1d at n columns) xs = Unit
ClampHolds (Lut3d at n interpolation) xs = Unit
ClampHolds (OneEnd end limit) xs = is_nan limit ≡ false → EachInside end limit xs
