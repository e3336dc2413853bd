use Rattle.std.proofs.Common.{arith}
use Rattle.std.proofs.lemmas.Grind.{common_steps}
use Rattle.shell_text.specs.Commands.{under_of, under_left}
use Rattle.shell_text.proofs.commands.under_id.Goals as goal

pub returns-in_err-length : goal.returns-in_err-length
unfolding under_of under_left
returns-in_err-length c = grind (arith, common_steps)

pub returns-in_err-bytes : goal.returns-in_err-bytes
unfolding under_of under_left
returns-in_err-bytes c = grind (arith, common_steps)

pub returns : goal.returns
unfolding under_of under_left
returns c = grind (arith, common_steps)
