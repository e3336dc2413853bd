use mathlib.Core.Path.{sym}
use Rattle.decimal_read.proofs.Loops.{left_all, left_more, left_stop, left_end}
use Rattle.decimal_read.proofs.run_at.Goals as goal
use Rattle.decimal_read.proofs.run_at.Goals.{in-Some+then-not-is_ascii_digit, in_default}

-- Assumes nothing.
pub loop-b-init : goal.loop-b-init
loop-b-init c = search left_all

pub loop-b-preserved : goal.loop-b-preserved
loop-b-preserved c =
    let e = c.with_digit-held.ensures in
    left_more _ _ _ _ _ c.loop-b.invariant _ _ c.in-Some.ensures.cases.0 (sym c.if-not-is_ascii_digit.ensures.value) _ e.0 e.1 e.2

pub returns : goal.returns
returns c = elim c.match-split_first.branch [
  | in-Some+then-not-is_ascii_digit w ↦ left_stop _ _ _ _ _ c.loop-b.invariant _ _ w.in-Some.ensures.cases.0 (sym w.if-not-is_ascii_digit.ensures.value)
  | in_default w ↦ left_end _ _ _ _ _ c.loop-b.invariant w.in_default.ensures.cases
]
