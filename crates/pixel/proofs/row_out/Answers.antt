use Rattle.pixel.specs.Matrix.{row_out}
use Rattle.pixel.proofs.row_out.Goals as goal

pub returns-then-wide : goal.returns-then-wide
unfolding row_out
returns-then-wide c = simp c.if-wide.true

pub returns : goal.returns
unfolding row_out
returns c = simp c.if-wide.false
