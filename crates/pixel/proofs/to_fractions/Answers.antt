use Rattle.pixel.specs.Scale.{to_fractions}
use Rattle.pixel.proofs.to_fractions.Goals as goal

pub returns : goal.returns
unfolding to_fractions
returns c = cc
