use Rattle.std.proofs.lemmas.Bool.Decides.{nat_tests}
use Rattle.room.specs.Room.{resizable}
use native.Mathlib.Omega.{arith}
use Rattle.room.proofs.can_resize.Goals as goal

pub returns-then-at-used : goal.returns-then-at-used
unfolding resizable
returns-then-at-used c = grind (arith, nat_tests)

pub returns-else-at-used : goal.returns-else-at-used
unfolding resizable
returns-else-at-used c = grind (arith, nat_tests)
