use Rattle.pixel_lut.specs.Lut1d.{position}
use Rattle.std.proofs.Common.{◌-◌, ◌^◌, arith, le→leb}
use lib.Ieee.{in_float}
use Rattle.pixel_lut.proofs.position.Goals as goal

pub int_to_float-result : goal.int_to_float-result
unfolding in_float
int_to_float-result c = le→leb (c.args.n - 1) (2 ^ 53) (omega arith)

pub returns : goal.returns
unfolding position
returns c = cc
