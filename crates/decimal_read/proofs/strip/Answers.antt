use Rattle.decimal_read.proofs.Loops.{strip-start, strip-more, strip-done}
use Rattle.decimal_read.proofs.strip.Goals as goal

-- Assumes nothing.
pub loop-coefficient-init : goal.loop-coefficient-init
loop-coefficient-init c = search strip-start

pub loop-coefficient-preserved : goal.loop-coefficient-preserved
loop-coefficient-preserved c = search strip-more

pub returns : goal.returns
returns c = strip-done _ _ _ c.requires.0 c.requires.1 c.loop-coefficient.invariant c.loop-coefficient-test.false
