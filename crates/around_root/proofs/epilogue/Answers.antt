use native.Mathlib.Omega.{arith}
use Rattle.around_root.proofs.Turns.{tail-open, tail-end, tail_none, tail-past}
use Rattle.around_root.proofs.epilogue.Goals as goal

pub returns-in-Ok-Start : goal.returns-in-Ok-Start
returns-in-Ok-Start c = tail-open _ _ _ _ (rw c.in-Ok-Start.field-0-is at c.in-Ok-Start.ensures)

pub returns-in-Ok-End : goal.returns-in-Ok-End
returns-in-Ok-End c = tail-end _ _ _ (rw c.in-Ok-End.field-0-is at c.in-Ok-End.ensures) _ c.stray_end.ensures

pub returns-then-s-halt : goal.returns-then-s-halt
returns-then-s-halt c = tail-past _ _ _ c.in-Err.ensures.passed (omega arith)

pub returns-else-s-halt : goal.returns-else-s-halt
returns-else-s-halt c = tail_none _ _ _ _ (omega arith) c.in-Err.ensures
