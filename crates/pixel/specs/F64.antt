-- The operations of document 01, 'What a pixel goes through': 'Each operation rounds once, left to right, f64. One NaN counts as any other.'
-- The logic has one NaN and tells +0 from -0, so an equation here fixes every bit of a value that is no NaN.
use Rattle.std.specs.Prelude.{pos, Float, ℕ}
use Rattle.std.specs.Float.{binary64}
use Rattle.std.specs.Float.Ieee.{add, sub, mul, div, of_int, of_bits}

infixl 65 ◌⊕◌
infixl 65 ◌⊖◌
infixl 70 ◌⊗◌
infixl 70 ◌⊘◌
-- +, -, · and / on f64
abbrev pub ◌⊕◌ : Float → Float → Float
◌⊕◌ = add binary64

abbrev pub ◌⊖◌ : Float → Float → Float
◌⊖◌ = sub binary64

abbrev pub ◌⊗◌ : Float → Float → Float
◌⊗◌ = mul binary64

abbrev pub ◌⊘◌ : Float → Float → Float
◌⊘◌ = div binary64

-- 0 and 1
abbrev pub zero : Float
zero = of_bits binary64 0

abbrev pub one : Float
one = of_bits binary64 0x3ff0_0000_0000_0000

-- a whole number as an f64
abbrev pub whole : ℕ → Float
whole k = of_int binary64 (pos k)
