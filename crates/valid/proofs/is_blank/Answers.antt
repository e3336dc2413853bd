use native.Mathlib.Omega.{arith}
use Rattle.std.proofs.lemmas.Bool.Decides.{nat_tests}
use Rattle.valid.specs.Valid.{is_blank}
use Rattle.valid.proofs.is_blank.Goals as goal

pub returns-then-node-eq0 : goal.returns-then-node-eq0
unfolding is_blank
returns-then-node-eq0 c = grind (arith, nat_tests)

pub returns-else-node-eq0 : goal.returns-else-node-eq0
unfolding is_blank
returns-else-node-eq0 c = grind (arith, nat_tests)
