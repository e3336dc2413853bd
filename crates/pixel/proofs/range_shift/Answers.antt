use Rattle.pixel.specs.Range.{range_shift}
use mathlib.Core.Path.{refl}
use Rattle.pixel.proofs.range_shift.Goals as goal

pub returns : goal.returns
unfolding range_shift
returns c = refl
