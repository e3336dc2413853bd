use Rattle.decimal_read.proofs.Parts.{fraction_end, fraction-none, fraction-some}
use Rattle.decimal_read.proofs.fraction.Goals as goal
use Rattle.decimal_read.proofs.fraction.Goals.{else-whole-t-via-then-whole-t+else-t-whole-eq46, else-whole-t-via-else-whole-t}

-- Assumes nothing.
pub returns-then-t-whole-eq46 : goal.returns-then-t-whole-eq46
returns-then-t-whole-eq46 c = search fraction-some

pub returns : goal.returns
returns c = elim c.else-whole-t.branch [
  | else-whole-t-via-then-whole-t+else-t-whole-eq46 w ↦ search fraction-none
  | else-whole-t-via-else-whole-t w ↦ search fraction_end
]
