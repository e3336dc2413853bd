use Rattle.room.specs.Room.{lent, room_length}
use Rattle.text_out.proofs.Laws.{puts-as, puts_then}
use Rattle.writing.proofs.Laws.{range-as}
use borrow.Author.Rules.{rules}
use Rattle.writing.proofs.elements.put_range.Goals as goal

-- The four values of a Range. Assumes nothing.
pub overflow_add-from : goal.overflow_add-from
unfolding room_length
overflow_add-from c = search rules

pub overflow_add-from-2 : goal.overflow_add-from-2
unfolding room_length
overflow_add-from-2 c = search rules

pub overflow_add-from-3 : goal.overflow_add-from-3
unfolding room_length
overflow_add-from-3 c = search rules

pub returns : goal.returns
returns c =
    let a = c.args in
    puts-as (range-as (lent a.coefficients.now a.powers.now) a.from)
    (puts_then c.put_value-a.ensures
    (puts_then c.put_value-b.ensures
    (puts_then c.put_value-c.ensures c.put_value.ensures)))
