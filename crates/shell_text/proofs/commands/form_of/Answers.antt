use Rattle.std.proofs.Common.{arith}
use Rattle.std.proofs.lemmas.Grind.{common_steps}
use Rattle.shell_text.specs.Commands.{form_of}
use Rattle.shell_text.proofs.commands.form_of.Goals as goal

pub returns-in-67 : goal.returns-in-67
unfolding form_of
returns-in-67 c = grind (arith, common_steps)

pub returns-in-82 : goal.returns-in-82
unfolding form_of
returns-in-82 c = grind (arith, common_steps)

pub returns-in-78 : goal.returns-in-78
unfolding form_of
returns-in-78 c = grind (arith, common_steps)

pub returns-in-87 : goal.returns-in-87
unfolding form_of
returns-in-87 c = grind (arith, common_steps)

pub returns-in_default : goal.returns-in_default
unfolding form_of
returns-in_default c = grind (arith, common_steps)
