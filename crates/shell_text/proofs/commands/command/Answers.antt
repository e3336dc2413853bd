use Rattle.std.proofs.Common.{arith}
use Rattle.std.proofs.lemmas.Grind.{common_steps}
use Rattle.shell_text.specs.Commands.{command_of, command_left, is_lettered}
use Rattle.shell_text.proofs.commands.command.Goals as goal

pub returns-then-is_run : goal.returns-then-is_run
unfolding command_of command_left is_lettered
returns-then-is_run c = grind (arith, common_steps)

pub returns-then-line-lt2 : goal.returns-then-line-lt2
unfolding command_of command_left is_lettered
returns-then-line-lt2 c = grind (arith, common_steps)

pub returns-then-line-ne32 : goal.returns-then-line-ne32
unfolding command_of command_left is_lettered
returns-then-line-ne32 c = grind (arith, common_steps)

pub returns-in_err-form : goal.returns-in_err-form
unfolding command_of command_left is_lettered
returns-in_err-form c = grind (arith, common_steps)

pub returns : goal.returns
unfolding command_of command_left is_lettered
returns c = grind (arith, common_steps)
