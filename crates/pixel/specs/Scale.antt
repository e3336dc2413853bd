-- Document 01: 'Between nodes, and in the lent slice, it holds code values. A code value counts in a node's depth, a fraction runs from black to full scale; the two are told apart everywhere.'
use Rattle.std.specs.Prelude.{cond, Float}
use Rattle.std.specs.Float.Ieee.{eq}
use Rattle.pixel.specs.declared.Pixel.{Pixel}
use Rattle.pixel.specs.declared.CodeValue.{CodeValue}
use Rattle.pixel.specs.declared.Fraction.{Fraction}
use Rattle.pixel.specs.declared.Fractions.{Fractions}
use Rattle.pixel.specs.F64.{◌⊗◌, ◌⊘◌, one}

-- from a code value to a fraction and back: by the scale alone, with no limit. 'Dividing or multiplying by a scale of 1 is not done.'
unfoldable pub to_fraction : Float → CodeValue → Fraction
to_fraction scale v = record { 0 = cond (eq scale one) v.0 (v.0 ⊘ scale) }

unfoldable pub to_code_value : Float → Fraction → CodeValue
to_code_value scale x = record { 0 = cond (eq scale one) x.0 (x.0 ⊗ scale) }

-- a pixel's three code values as fractions, and back
unfoldable pub to_fractions : Float → Pixel → Fractions
to_fractions scale x = record {
  r = to_fraction scale (record { 0 = x.r });
  g = to_fraction scale (record { 0 = x.g });
  b = to_fraction scale (record { 0 = x.b });
}

unfoldable pub to_code_values : Float → Fractions → Pixel
to_code_values scale x = record {
  r = (to_code_value scale x.r).0;
  g = (to_code_value scale x.g).0;
  b = (to_code_value scale x.b).0;
}
