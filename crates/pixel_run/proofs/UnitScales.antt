-- An ASC_CDL whose scales equal 1 scales as with 1 itself: 'Dividing or multiplying by a scale of 1 is not done.' Assumes nothing.
use mathlib.Core.Path.{◌≡◌, refl, ◌∙◌}
use mathlib.Core.Bool.{Bool, true}
use mathlib.Core.List.{List}
use lib.Ieee.{Float, eq, of_bits}
use Rattle.pixel.specs.declared.Pixel.{Pixel}
use Rattle.pixel.specs.F64.{one}
use Rattle.pixel.specs.Scale.{to_fraction, to_fractions, to_code_value, to_code_values}
use Rattle.pixel.specs.Cdl.{cdl_pixel}
use Rattle.pixel_run.specs.Each.{each_pixel}
use Rattle.pixel_run.specs.EachLaws.{each_same}

one-one : eq one one ≡ true
unfolding eq of_bits
one-one = refl

module _ (sr sg sb or og ob sat : Float) (clamp : Bool) (inScale outScale : Float) (i : eq inScale one ≡ true) (o : eq outScale one ≡ true) where
  unit-scales : (x : Pixel) → cdl_pixel sr sg sb or og ob sat clamp one one x ≡ cdl_pixel sr sg sb or og ob sat clamp inScale outScale x
  unfolding cdl_pixel to_fractions to_fraction to_code_values to_code_value
  unit-scales x = simp (i, o, one-one)

  pub unit-run : (xs : List Float) {ys : List Float} → clamp ≡ true → ys ≡ each_pixel (cdl_pixel sr sg sb or og ob sat true one one) xs
      → ys ≡ each_pixel (cdl_pixel sr sg sb or og ob sat clamp inScale outScale) xs
  unit-run xs k e = e ∙ rw (← k) (each_same _ _ unit-scales xs)
