use Rattle.decimal_read.proofs.Laws.{is_minus-laws}
use Rattle.scanning.specs.Steps.{scan}
use Rattle.decimal_read.proofs.is_minus.Goals as goal

-- Assumes nothing.
pub returns-then-at-t : goal.returns-then-at-t
returns-then-at-t c = search (scan, is_minus-laws)

pub returns-else-at-t : goal.returns-else-at-t
returns-else-at-t c = search (scan, is_minus-laws)
