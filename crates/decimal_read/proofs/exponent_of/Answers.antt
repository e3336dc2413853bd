use Rattle.std.proofs.Common.{arith}
use Rattle.std.proofs.lemmas.Grind.{common_steps}
use Rattle.decimal_read.specs.Steps.{exponent_of}
use Rattle.decimal_read.proofs.exponent_of.Goals as goal

-- Assumes nothing.
pub returns-then-run-lt1 : goal.returns-then-run-lt1
unfolding exponent_of
returns-then-run-lt1 c = grind (arith, common_steps)

pub returns-then-minus : goal.returns-then-minus
unfolding exponent_of
returns-then-minus c = grind (arith, common_steps)

pub returns-else-minus : goal.returns-else-minus
unfolding exponent_of
returns-else-minus c = grind (arith, common_steps)
