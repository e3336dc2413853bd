use Rattle.pixel.specs.Cdl.{sop}
use Rattle.pixel.proofs.sop.Goals as goal

pub returns : goal.returns
unfolding sop
returns c = cc
