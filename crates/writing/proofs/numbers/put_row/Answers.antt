use native.Mathlib.Omega.{arith}
use Rattle.room.specs.Room.{lent, room_length}
use Rattle.text_out.proofs.Laws.{goes-start, goes_end, puts-as, puts_then}
use Rattle.writing.proofs.Laws.{row-none, row-some}
use borrow.Author.Rules.{rules}
use Rattle.writing.proofs.numbers.put_row.Goals as goal

-- The first number, then the others. Assumes nothing.
pub returns-then-count-eq0 : goal.returns-then-count-eq0
returns-then-count-eq0 c =
    let a = c.args in
    goes_end (goes-start _ _ _) (row-none (lent a.coefficients.now a.powers.now) a.from a.count c.requires c.if-count-eq0.true)

pub overflow_add-from : goal.overflow_add-from
unfolding room_length
overflow_add-from c = search rules

pub returns : goal.returns
returns c =
    let a = c.args in
    puts-as (row-some (lent a.coefficients.now a.powers.now) a.from a.count c.requires (omega (arith, c.if-count-eq0.false)))
    (puts_then c.put_number-held.ensures c.put_spaced.ensures)
