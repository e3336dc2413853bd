-- A Range with four values and style Clamp puts every component between minOut and maxOut, whatever comes in, a NaN included. Assumes nothing.
use Rattle.std.specs.Prelude.{◌≡◌, Bool, true, false, T, Float}
use Rattle.std.proofs.Common.{sym, subst}
use Rattle.std.specs.Float.Ieee.{le}
use Rattle.pixel.specs.declared.Pixel.{Pixel}
use Rattle.pixel.specs.declared.CodeValue.{CodeValue}
use Rattle.pixel.specs.Bounds.{Between, Within}
use Rattle.pixel.specs.HoldLaws.{hold-between}
use Rattle.pixel.specs.Range.{range_line, range_component, range_pixel}

pub line-between : (s shift lo hi : Float) (clamp : Bool) (x : CodeValue) → T clamp → T (le lo hi) → Between lo hi (range_line s shift lo hi clamp x).0
unfolding range_line
line-between s shift lo hi true x t h = hold-between _ lo hi h
line-between s shift lo hi false x t h = absurd t

-- the bound, of an answer that equals the definition's
pub line-bound : (s shift lo hi : Float) (clamp : Bool) (x r : CodeValue) → r ≡ range_line s shift lo hi clamp x → T clamp → T (le lo hi) → Between lo hi r.0
line-bound s shift lo hi clamp x r e t h = subst (λ (y : CodeValue). Between lo hi y.0) (sym e) (line-between s shift lo hi clamp x t h)

pub range-between : (minIn maxIn lo hi : Float) (clamp : Bool) (x : Float) → T clamp → T (le lo hi) → Between lo hi (range_component minIn maxIn lo hi clamp x)
unfolding range_component
range-between minIn maxIn lo hi clamp x t h = line-between _ _ lo hi clamp _ t h

pub range-within : (minIn maxIn lo hi : Float) (clamp : Bool) (x : Pixel) → T clamp → T (le lo hi) → Within lo hi (range_pixel minIn maxIn lo hi clamp x)
unfolding range_pixel
range-within minIn maxIn lo hi clamp x t h = record {
  red = range-between minIn maxIn lo hi clamp x.r t h;
  green = range-between minIn maxIn lo hi clamp x.g t h;
  blue = range-between minIn maxIn lo hi clamp x.b t h;
}

pub range-bound : (minIn maxIn lo hi : Float) (clamp : Bool) (x r : Pixel) → r ≡ range_pixel minIn maxIn lo hi clamp x → T clamp → T (le lo hi) → Within lo hi r
range-bound minIn maxIn lo hi clamp x r e t h = subst (λ (y : Pixel). Within lo hi y) (sym e) (range-within minIn maxIn lo hi clamp x t h)
