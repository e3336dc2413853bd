use Rattle.pixel.specs.Scale.{to_code_values}
use Rattle.pixel.proofs.to_code_values.Goals as goal

pub returns : goal.returns
unfolding to_code_values
returns c = cc
