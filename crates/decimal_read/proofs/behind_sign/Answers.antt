use Rattle.std.proofs.Common.{inl, inr, rules}
use Rattle.decimal_read.proofs.Laws.{behind_sign-laws}
use Rattle.decimal_read.proofs.Parts.{sign_passed, sign_none}
use Rattle.scanning.specs.Steps.{scan}
use Rattle.decimal_read.proofs.behind_sign.Goals as goal
use Rattle.decimal_read.proofs.behind_sign.Goals.{then-t-at-eq45-via-then-t-at-eq45, then-t-at-eq45-via-else-t-at-eq45+then-t-at-eq43}

-- Assumes nothing.
pub returns-then-t-at : goal.returns-then-t-at
returns-then-t-at c = (search (scan, behind_sign-laws), search rules)

pub returns-then-t-at-eq45 : goal.returns-then-t-at-eq45
returns-then-t-at-eq45 c = (
  elim c.then-t-at-eq45.branch [
    | then-t-at-eq45-via-then-t-at-eq45 w ↦ sign_passed _ _ c.if-t-at.false (inl w.if-t-at-eq45.true)
    | then-t-at-eq45-via-else-t-at-eq45+then-t-at-eq43 w ↦ sign_passed _ _ c.if-t-at.false (inr w.if-t-at-eq43.true)
  ],
  search rules,
)

pub returns : goal.returns
returns c = (search sign_none, search rules)
