use Rattle.std.proofs.Common.{arith}
use Rattle.std.proofs.lemmas.Grind.{common_steps}
use Rattle.decimal_read.specs.Steps.{held_with}
use Rattle.decimal_read.proofs.Held.with_digit.Goals as goal

-- Assumes nothing.
pub returns-then-self-lt1000000000000000000 : goal.returns-then-self-lt1000000000000000000
unfolding held_with
returns-then-self-lt1000000000000000000 c = grind (arith, common_steps)

pub returns : goal.returns
unfolding held_with
returns c = grind (arith, common_steps)
