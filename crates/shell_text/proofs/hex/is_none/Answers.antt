use Rattle.std.proofs.Common.{arith}
use Rattle.std.proofs.lemmas.Grind.{common_steps}
use Rattle.shell_text.specs.Hex.{is_none}
use Rattle.shell_text.proofs.hex.is_none.Goals as goal

pub returns-then-start-end : goal.returns-then-start-end
unfolding is_none
returns-then-start-end c = grind (arith, common_steps)

pub returns-else-start-end : goal.returns-else-start-end
unfolding is_none
returns-else-start-end c = grind (arith, common_steps)
