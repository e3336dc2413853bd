-- An ASC_CDL of style Fwd with an out scale of 1 puts every component between 0 and 1, whatever comes in, a NaN included. Assumes nothing.
use Rattle.std.specs.Prelude.{◌≡◌, Bool, true, false, cond, T, Float}
use Rattle.std.specs.Float.Ieee.{eq, le, lt, of_bits}
use Rattle.pixel.specs.declared.Pixel.{Pixel}
use Rattle.pixel.specs.declared.Fractions.{Fractions}
use Rattle.pixel.specs.F64.{zero, one}
use Rattle.pixel.specs.Bounds.{Between, Within}
use Rattle.pixel.specs.HoldLaws.{hold-between}
use Rattle.pixel.specs.Scale.{to_code_value, to_code_values, to_fractions}
use Rattle.pixel.specs.Cdl.{held_for_fwd, sop, sop_pixel, luma, saturated, saturated_by, sat_pixel, cdl_pixel}

zero_one : T (le zero one)
unfolding le lt eq of_bits
zero_one = tt

held-between : (clamp : Bool) (x : Float) → T clamp → Between zero one (held_for_fwd clamp x).0
unfolding held_for_fwd
held-between true x t = hold-between x zero one zero_one
held-between false x t = absurd t

-- each of three fractions between 0 and 1
record InUnit (x : Fractions) : Type 0 where
  red : Between zero one x.r.0
  green : Between zero one x.g.0
  blue : Between zero one x.b.0

sop-in : (sr sg sb or og ob : Float) (clamp : Bool) (x : Fractions) → T clamp → InUnit (sop_pixel sr sg sb or og ob clamp x)
unfolding sop_pixel sop
sop-in sr sg sb or og ob clamp x t = record { red = held-between clamp _ t; green = held-between clamp _ t; blue = held-between clamp _ t }

sat-in : (sat : Float) (clamp : Bool) (x : Fractions) → T clamp → InUnit x → InUnit (sat_pixel sat clamp x)
unfolding sat_pixel saturated_by saturated
sat-in sat clamp x t h = go (eq sat one)
  where
    go : (q : Bool) → InUnit (cond q x (saturated_by sat (luma x) clamp x))
    go true = h
    go false = record { red = held-between clamp _ t; green = held-between clamp _ t; blue = held-between clamp _ t }

code_in : (scale : Float) (x : Fractions) → eq scale one ≡ true → InUnit x → Within zero one (to_code_values scale x)
unfolding to_code_values to_code_value
code_in scale x e h = rw e (record { red = h.red; green = h.green; blue = h.blue })

pub cdl-within : (sr sg sb or og ob sat : Float) (clamp : Bool) (inScale outScale : Float) (x : Pixel)
    → T clamp → eq outScale one ≡ true → Within zero one (cdl_pixel sr sg sb or og ob sat clamp inScale outScale x)
unfolding cdl_pixel
cdl-within sr sg sb or og ob sat clamp inScale outScale x t e =
    code_in outScale _ e (sat-in sat clamp _ t (sop-in sr sg sb or og ob clamp (to_fractions inScale x) t))
