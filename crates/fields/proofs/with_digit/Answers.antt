use Rattle.std.proofs.Common.{arith}
use Rattle.std.proofs.lemmas.Grind.{common_steps}
use Rattle.fields.specs.Fields.{with_digit}
use Rattle.fields.proofs.with_digit.Goals as goal

pub returns : goal.returns
unfolding with_digit
returns c = grind (arith, common_steps)
