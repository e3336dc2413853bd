use Rattle.std.proofs.Common.{arith}
use Rattle.std.proofs.lemmas.Grind.{common_steps}
use Rattle.shell_text.specs.Commands.{line_numbers}
use Rattle.shell_text.proofs.commands.numbers.Goals as goal

pub returns-in-Bytes : goal.returns-in-Bytes
unfolding line_numbers
returns-in-Bytes c = grind (arith, common_steps)

pub returns-in-Numbered : goal.returns-in-Numbered
unfolding line_numbers
returns-in-Numbered c = grind (arith, common_steps)

pub returns-in-Fed : goal.returns-in-Fed
unfolding line_numbers
returns-in-Fed c = grind (arith, common_steps)

pub returns-in-Named : goal.returns-in-Named
unfolding line_numbers
returns-in-Named c = grind (arith, common_steps)
