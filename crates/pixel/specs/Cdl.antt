-- Document 01, ASC_CDL: 'fraction; x·slope + offset, held in 0..1 for Fwd; if Saturation is not 1: luma = 0.2126·r + 0.7152·g + 0.0722·b, luma + sat·(x − luma), held likewise;
-- then times the out scale.'
-- Only Power 1 is carried, so no power is taken.
use Rattle.std.specs.Prelude.{Bool, cond, ℕ, Float}
use Rattle.std.specs.Float.Ieee.{eq}
use Rattle.pixel.specs.declared.Pixel.{Pixel}
use Rattle.pixel.specs.declared.Fraction.{Fraction}
use Rattle.pixel.specs.declared.Fractions.{Fractions}
use Rattle.pixel.specs.F64.{◌⊕◌, ◌⊖◌, ◌⊗◌, ◌⊘◌, zero, one, whole}
use Rattle.pixel.specs.Hold.{hold}
use Rattle.pixel.specs.Scale.{to_fractions, to_code_values}

-- 'held in 0..1 for Fwd': clamp is true for Fwd and false for FwdNoClamp
unfoldable pub held_for_fwd : Bool → Float → Fraction
held_for_fwd clamp x = record { 0 = cond clamp (hold x zero one) x }

-- 'x·slope + offset, held in 0..1 for Fwd'
unfoldable pub sop : Float → Float → Bool → Fraction → Fraction
sop slope offset clamp x = held_for_fwd clamp (x.0 ⊗ slope ⊕ offset)

unfoldable pub sop_pixel : Float → Float → Float → Float → Float → Float → Bool → Fractions → Fractions
sop_pixel slopeR slopeG slopeB offsetR offsetG offsetB clamp x = record {
  r = sop slopeR offsetR clamp x.r;
  g = sop slopeG offsetG clamp x.g;
  b = sop slopeB offsetB clamp x.b;
}

-- 0.2126, 0.7152 and 0.0722, each as so many ten-thousandths: one division of two whole numbers rounds once, to the f64 nearest to the decimal
unfoldable pub ten_thousandths : ℕ → Float
ten_thousandths n = whole n ⊘ whole 10000

abbrev pub red_weight : Float
red_weight = ten_thousandths 2126

abbrev pub green_weight : Float
green_weight = ten_thousandths 7152

abbrev pub blue_weight : Float
blue_weight = ten_thousandths 722

-- 'luma = 0.2126·r + 0.7152·g + 0.0722·b'
unfoldable pub luma : Fractions → Fraction
luma x = record { 0 = red_weight ⊗ x.r.0 ⊕ green_weight ⊗ x.g.0 ⊕ blue_weight ⊗ x.b.0 }

-- 'luma + sat·(x − luma), held likewise'
unfoldable pub saturated : Float → Fraction → Bool → Fraction → Fraction
saturated sat l clamp x = held_for_fwd clamp (l.0 ⊕ sat ⊗ (x.0 ⊖ l.0))

unfoldable pub saturated_by : Float → Fraction → Bool → Fractions → Fractions
saturated_by sat l clamp x = record { r = saturated sat l clamp x.r; g = saturated sat l clamp x.g; b = saturated sat l clamp x.b }

-- 'if Saturation is not 1'
unfoldable pub sat_pixel : Float → Bool → Fractions → Fractions
sat_pixel sat clamp x = cond (eq sat one) x (saturated_by sat (luma x) clamp x)

-- an ASC_CDL's step on a pixel
unfoldable pub cdl_pixel : Float → Float → Float → Float → Float → Float → Float → Bool → Float → Float → Pixel → Pixel
cdl_pixel slopeR slopeG slopeB offsetR offsetG offsetB sat clamp inScale outScale x =
    to_code_values outScale (sat_pixel sat clamp (sop_pixel slopeR slopeG slopeB offsetR offsetG offsetB clamp (to_fractions inScale x)))
