use Rattle.pixel.specs.Cdl.{saturated}
use Rattle.pixel.proofs.saturated.Goals as goal

pub returns : goal.returns
unfolding saturated
returns c = cc
