use Rattle.std.proofs.Common.{arith}
use Rattle.std.proofs.lemmas.Grind.{common_steps}
use Rattle.shell_text.specs.Lines.{is_too_long}
use Rattle.shell_text.proofs.lines.is_too_long.Goals as goal

pub returns-then-number-eq-SHORT_OUTPUT : goal.returns-then-number-eq-SHORT_OUTPUT
unfolding is_too_long
returns-then-number-eq-SHORT_OUTPUT c = grind (arith, common_steps)

pub returns-else-number-eq-SHORT_OUTPUT : goal.returns-else-number-eq-SHORT_OUTPUT
unfolding is_too_long
returns-else-number-eq-SHORT_OUTPUT c = grind (arith, common_steps)
