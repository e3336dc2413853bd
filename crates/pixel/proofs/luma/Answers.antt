use mathlib.Core.Path.{◌≡◌, refl}
use lib.Ieee.{binary64, of_bits, of_int, div}
use Rattle.pixel.specs.Cdl.{ten_thousandths, luma}
use Rattle.pixel.proofs.luma.Goals as goal

red-bits : ten_thousandths 2126 ≡ of_bits binary64 0x3fcb_367a_0f90_96bc
unfolding ten_thousandths div of_int of_bits
red-bits = refl

green-bits : ten_thousandths 7152 ≡ of_bits binary64 0x3fe6_e2eb_1c43_2ca5
unfolding ten_thousandths div of_int of_bits
green-bits = refl

blue-bits : ten_thousandths 722 ≡ of_bits binary64 0x3fb2_7bb2_fec5_6d5d
unfolding ten_thousandths div of_int of_bits
blue-bits = refl

pub returns : goal.returns
unfolding luma
returns c = rw (red-bits, green-bits, blue-bits)
