use Rattle.std.proofs.Common.{arith}
use Rattle.std.proofs.lemmas.Grind.{common_steps}
use Rattle.shell_text.specs.Commands.{shaped_of, shaped_left, is_named}
use Rattle.shell_text.proofs.commands.shaped.Goals as goal

pub returns-then-eq : goal.returns-then-eq
unfolding shaped_of shaped_left is_named
returns-then-eq c = grind (arith, common_steps)

pub returns-in_err-before : goal.returns-in_err-before
unfolding shaped_of shaped_left is_named
returns-in_err-before c = grind (arith, common_steps)

pub returns : goal.returns
unfolding shaped_of shaped_left is_named
returns c = grind (arith, common_steps)
