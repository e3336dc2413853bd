use Rattle.pixel.specs.Cdl.{cdl_pixel}
use Rattle.pixel.proofs.cdl_pixel.Goals as goal

pub returns : goal.returns
unfolding cdl_pixel
returns c = cc
