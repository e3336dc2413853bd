use Rattle.decimal_read.proofs.Ranged.{signed-down, signed_up}
use Rattle.decimal_read.proofs.signed.Goals as goal

-- Assumes nothing.
pub returns-then-negative : goal.returns-then-negative
returns-then-negative c = search signed-down

pub returns-else-negative : goal.returns-else-negative
returns-else-negative c = search signed_up
