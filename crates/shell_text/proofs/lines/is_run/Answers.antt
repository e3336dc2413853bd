use Rattle.std.proofs.Common.{arith}
use Rattle.std.proofs.lemmas.Grind.{common_steps}
use Rattle.shell_text.specs.Lines.{is_run}
use Rattle.shell_text.proofs.lines.is_run.Goals as goal

pub returns-in-88 : goal.returns-in-88
unfolding is_run
returns-in-88 c = grind (arith, common_steps)

pub returns-in-88-2 : goal.returns-in-88-2
unfolding is_run
returns-in-88-2 c = grind (arith, common_steps)

pub returns-in_default : goal.returns-in_default
unfolding is_run
returns-in_default c = grind (arith, common_steps)

pub returns-in_default-2 : goal.returns-in_default-2
unfolding is_run
returns-in_default-2 c = grind (arith, common_steps)

pub returns-in_default-3 : goal.returns-in_default-3
unfolding is_run
returns-in_default-3 c = grind (arith, common_steps)

pub returns-in_default-4 : goal.returns-in_default-4
unfolding is_run
returns-in_default-4 c = grind (arith, common_steps)
