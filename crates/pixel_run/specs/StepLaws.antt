-- What a step can put out, whatever comes in: a Range with four values and style Clamp stays between minOut and maxOut, an ASC_CDL of style Fwd with an out scale of 1 between 0 and 1,
-- a LUT1D that the room holds between the bounds of its columns, and a LUT3D that it holds between the corners used; a Range with one end, where its limit is no NaN, puts out nothing
-- beyond it and no NaN, and what was neither keeps its bits. Of what comes out, over a slice: `each_holds` of EachLaws. Assumes nothing.
use Rattle.std.specs.Prelude.{◌≡◌, refl, List, ℕ, ◌<◌, T, Float}
use Rattle.std.proofs.Math.Bool.{true}
use Rattle.std.specs.Float.Ieee.{le, eq}
use Rattle.pixel.specs.declared.Pixel.{Pixel}
use Rattle.pixel.specs.F64 as F64
use Rattle.pixel.specs.Bounds.{Between, Within}
use Rattle.pixel.specs.RangeLaws.{range-within}
use Rattle.pixel.specs.OneEnd.{KeepsEndPixel}
use Rattle.pixel.specs.OneEndLaws.{limited-pixel-keeps}
use Rattle.pixel.specs.CdlLaws.{cdl-within}
use Rattle.room.specs.Room.{Room, room_length}
use Rattle.pixel_lut.specs.Table.{table_in, entry_at, column_of}
use Rattle.pixel_lut.specs.TableLaws.{InColumns, lut1d-between}
use Rattle.process_list.specs.declared.Interpolation.{Interpolation}
use Rattle.process_list.specs.declared.RangeEnd.{RangeEnd}
use Rattle.pixel_cube.specs.Corners.{LutKeeps}
use Rattle.pixel_cube.proofs.Keeps.{kept}
use Rattle.pixel_run.specs.declared.Prepared.TheVariants.{Range, Cdl, Lut1d, Lut3d, OneEnd}
use Rattle.pixel_run.specs.Step.{step_pixel}

module _ (rows : List (List Float)) (inScale outScale : Float) (m : Room) where
  pub range-clamped : (minIn maxIn minOut maxOut : Float) (x : Pixel) → T (le minOut maxOut)
      → Within minOut maxOut (step_pixel (Range minIn maxIn minOut maxOut true) rows inScale outScale m x)
  unfolding step_pixel
  range-clamped minIn maxIn minOut maxOut x h = range-within minIn maxIn minOut maxOut true x tt h

  pub cdl-clamped : (sr sg sb or og ob pr pg pb sat : Float) (x : Pixel) → eq outScale F64.one ≡ true
      → Within F64.zero F64.one (step_pixel (Cdl sr sg sb or og ob pr pg pb sat true) rows inScale outScale m x)
  unfolding step_pixel
  cdl-clamped sr sg sb or og ob pr pg pb sat x h = cdl-within sr sg sb or og ob sat true inScale outScale x tt h

  pub lut1d-in-columns : (at n columns : ℕ) (x : Pixel) (lo hi : ℕ → Float) → table_in (room_length m) at n columns ≡ true
      → ((k i : ℕ) → k < 3 → i < n → Between (lo k) (hi k) (entry_at m at columns (column_of columns k) i))
      → InColumns lo hi (step_pixel (Lut1d at n columns) rows inScale outScale m x)
  unfolding step_pixel
  lut1d-in-columns at n columns x lo hi h b = lut1d-between m at n columns inScale x lo hi h b

  pub lut3d-keeps : (at n : ℕ) (interpolation : Interpolation) (x : Pixel)
      → LutKeeps m at n interpolation inScale x (step_pixel (Lut3d at n interpolation) rows inScale outScale m x)
  unfolding step_pixel
  lut3d-keeps at n interpolation x = (kept m at n interpolation inScale x _ refl).1

  pub one-end-keeps : (end : RangeEnd) (limit : Float) (x : Pixel) → KeepsEndPixel end limit x (step_pixel (OneEnd end limit) rows inScale outScale m x)
  unfolding step_pixel
  one-end-keeps end limit x = limited-pixel-keeps end limit x
