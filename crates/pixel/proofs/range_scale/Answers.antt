use Rattle.pixel.specs.Range.{range_scale}
use mathlib.Core.Path.{refl}
use Rattle.pixel.proofs.range_scale.Goals as goal

pub returns : goal.returns
unfolding range_scale
returns c = refl
