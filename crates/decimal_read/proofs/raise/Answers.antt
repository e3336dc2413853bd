use Rattle.decimal_read.specs.Steps.{raised}
use Rattle.decimal_read.proofs.raise.Goals as goal

-- Assumes nothing.
pub returns-in-Up : goal.returns-in-Up
unfolding raised
returns-in-Up c = rw c.in-Up.is c.settle.ensures

pub returns-in-Down : goal.returns-in-Down
unfolding raised
returns-in-Down c = rw c.in-Down.is c.settle-in-Down.ensures
