use Rattle.pixel.specs.Cdl.{saturated_by}
use Rattle.pixel.proofs.saturated_by.Goals as goal

pub returns : goal.returns
unfolding saturated_by
returns c = cc
