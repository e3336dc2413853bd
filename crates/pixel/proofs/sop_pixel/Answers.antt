use Rattle.pixel.specs.Cdl.{sop_pixel}
use Rattle.pixel.proofs.sop_pixel.Goals as goal

pub returns : goal.returns
unfolding sop_pixel
returns c = cc
