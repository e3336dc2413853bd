use Rattle.std.proofs.Common.{arith}
use Rattle.std.proofs.lemmas.Grind.{common_steps}
use Rattle.decimal_read.proofs.Ranged.{in-range}
use Rattle.decimal_read.specs.Steps.{ranged}
use Rattle.decimal_read.proofs.range.Goals as goal

-- Assumes nothing.
pub returns-then-c-ge1000000000000000 : goal.returns-then-c-ge1000000000000000
unfolding ranged
returns-then-c-ge1000000000000000 c = grind (arith, common_steps)

pub returns : goal.returns
unfolding ranged
returns c = search in-range
