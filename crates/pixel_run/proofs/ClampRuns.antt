-- A slice that went through a Range with four values and style Clamp lies between minOut and maxOut, and none of one that went through a Range with one end, whose limit is no NaN, is beyond it or a NaN. Assumes nothing.
use mathlib.Core.Path.{◌≡◌}
use mathlib.Core.Bool.{Bool, false}
use mathlib.Core.List.{List}
use lib.Dec.{T}
use lib.Ieee.{Float, le, is_nan}
use Rattle.process_list.specs.declared.RangeEnd.{RangeEnd}
use Rattle.pixel.specs.declared.Pixel.{Pixel}
use Rattle.pixel.specs.Bounds.{Within}
use Rattle.pixel.specs.Range.{range_pixel}
use Rattle.pixel.specs.RangeLaws.{range-within}
use Rattle.pixel.specs.OneEnd.{limited_pixel, InsidePixel}
use Rattle.pixel.specs.OneEndLaws.{limited-inside}
use Rattle.room.specs.Room.{Room}
use Rattle.pixel_run.specs.declared.Prepared.{Prepared}
use Rattle.pixel_run.specs.declared.Prepared.TheVariants.{Range, Cdl, Matrix, Lut1d, Lut3d, OneEnd}
use Rattle.pixel_run.specs.Each.{each_pixel, EachHolds, EachWithin, EachInside}
use Rattle.pixel_run.specs.EachLaws.{each_holds}
use Rattle.pixel_run.specs.Step.{step_pixel, ClampHolds}

-- what a step promises of every pixel, of a slice that went through it
step-held : (P : Pixel → Type 0) (f : Pixel → Pixel) (xs ys : List Float) → ys ≡ each_pixel f xs → ((x : Pixel) → P (f x)) → EachHolds P ys
step-held P f xs ys e h = rw e (each_holds P f h xs)

pub range-held : (minIn maxIn lo hi : Float) (clamp : Bool) (xs ys : List Float) → ys ≡ each_pixel (range_pixel minIn maxIn lo hi clamp) xs → T clamp → T (le lo hi) → EachWithin lo hi ys
range-held minIn maxIn lo hi clamp xs ys e t h = step-held (Within lo hi) _ xs ys e (λ x. range-within minIn maxIn lo hi clamp x t h)

pub one-end-held : (end : RangeEnd) (limit : Float) (xs ys : List Float) → ys ≡ each_pixel (limited_pixel end limit) xs → is_nan limit ≡ false → EachInside end limit ys
one-end-held end limit xs ys e h = step-held (InsidePixel end limit) _ xs ys e (λ x. limited-inside end limit x h)

module _ (rows : List (List Float)) (inScale outScale : Float) (m : Room) (xs ys : List Float) where
  held : (p : Prepared) → ys ≡ each_pixel (step_pixel p rows inScale outScale m) xs → ClampHolds p ys
  unfolding step_pixel ClampHolds
  held (Range minIn maxIn minOut maxOut clamp) e = range-held minIn maxIn minOut maxOut clamp xs ys e
  held (Cdl sr sg sb or og ob pr pg pb sat clamp) e = tt
  held (Matrix at wide) e = tt
  held (Lut1d at n columns) e = tt
  held (Lut3d at n interpolation) e = tt
  held (OneEnd end limit) e = one-end-held end limit xs ys e

  pub node-ran : (p : Prepared) → ys ≡ each_pixel (step_pixel p rows inScale outScale m) xs
      → (ys ≡ each_pixel (step_pixel p rows inScale outScale m) xs) × ClampHolds p ys
  node-ran p e = (e, held p e)
