use mathlib.Core.Path.{◌≡◌}
use mathlib.Core.Bool.{true}
use Rattle.std.proofs.Common.{inl, inr}
use lib.ListN.{get_or}
use Rattle.decimal_read.specs.Number.{is_mark}
use Rattle.decimal_read.proofs.Parts.{exponent-end, mark, other, no-mark, exponent-more, exponent-whole, short-run}
use Rattle.decimal_read.proofs.exponent_at.Goals as goal
use Rattle.decimal_read.proofs.exponent_at.Goals.{else-t-at-ne101-via-then-t-at-ne101+else-t-at-ne69, else-t-at-ne101-via-else-t-at-ne101}

-- Assumes nothing.
pub returns-then-t-at : goal.returns-then-t-at
returns-then-t-at c = search exponent-end

pub returns-then-t-at-ne69 : goal.returns-then-t-at-ne69
returns-then-t-at-ne69 c = search (no-mark, other)

pub returns-then-run-t : goal.returns-then-run-t
returns-then-run-t c =
    let m : is_mark (get_or c.args.t.now c.args.at 0) ≡ true = elim c.else-t-at-ne101.branch [
      | else-t-at-ne101-via-then-t-at-ne101+else-t-at-ne69 w ↦ mark _ (inr w.if-t-at-ne69.false)
      | else-t-at-ne101-via-else-t-at-ne101 w ↦ mark _ (inl w.if-t-at-ne101.false)
    ] in
    search exponent-more

pub exponent_of-requires : goal.exponent_of-requires
exponent_of-requires c = search short-run

pub returns : goal.returns
returns c =
    let m : is_mark (get_or c.args.t.now c.args.at 0) ≡ true = elim c.else-t-at-ne101.branch [
      | else-t-at-ne101-via-then-t-at-ne101+else-t-at-ne69 w ↦ mark _ (inr w.if-t-at-ne69.false)
      | else-t-at-ne101-via-else-t-at-ne101 w ↦ mark _ (inl w.if-t-at-ne101.false)
    ] in
    search exponent-whole
