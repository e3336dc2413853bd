use Rattle.std.proofs.Common.{arith}
use Rattle.std.proofs.lemmas.Grind.{common_steps}
use Rattle.shell_text.specs.Commands.{feed_behind}
use Rattle.shell_text.proofs.commands.two_numbers.Goals as goal

pub returns-in_err-first : goal.returns-in_err-first
unfolding feed_behind
returns-in_err-first c = grind (arith, common_steps)

pub returns-in_err-second : goal.returns-in_err-second
unfolding feed_behind
returns-in_err-second c = grind (arith, common_steps)

pub returns : goal.returns
unfolding feed_behind
returns c = grind (arith, common_steps)
