use Rattle.pixel_cube.specs.Ways.{cell_of}
use Rattle.pixel_cube.proofs.cell_of.Goals as goal

pub returns : goal.returns
unfolding cell_of
returns c = cc
