use Rattle.pixel.specs.Matrix.{matrix_pixel}
use Rattle.pixel.proofs.matrix_pixel.Goals as goal

pub returns : goal.returns
unfolding matrix_pixel
returns c = cc
