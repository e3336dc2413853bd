use Rattle.std.proofs.Common.{arith}
use Rattle.std.proofs.lemmas.Grind.{common_steps}
use Rattle.shell_text.specs.Commands.{number_at}
use Rattle.shell_text.proofs.commands.number_at.Goals as goal

pub returns-in_err-number : goal.returns-in_err-number
unfolding number_at
returns-in_err-number c = grind (arith, common_steps)

pub returns : goal.returns
unfolding number_at
returns c = grind (arith, common_steps)
