use Rattle.std.proofs.Common.{arith}
use Rattle.std.proofs.lemmas.Grind.{common_steps}
use Rattle.decimal_read.specs.Steps.{settled}
use Rattle.decimal_read.proofs.settle.Goals as goal

-- Assumes nothing.
pub returns-then-size-gt64 : goal.returns-then-size-gt64
unfolding settled
returns-then-size-gt64 c = grind (arith, common_steps)

pub returns-then-held-eq0 : goal.returns-then-held-eq0
unfolding settled
returns-then-held-eq0 c = grind (arith, common_steps)

pub returns : goal.returns
unfolding settled
returns c = grind (arith, common_steps)
