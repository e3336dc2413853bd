use Rattle.room.specs.Room.{lent, room_length}
use Rattle.text_out.proofs.Laws.{puts-as, puts_then}
use Rattle.writing.proofs.Laws.{sop-as}
use borrow.Author.Rules.{rules}
use Rattle.writing.proofs.elements.put_sop.Goals as goal

-- Slope, Offset, Power. Assumes nothing.
pub overflow_add-from : goal.overflow_add-from
unfolding room_length
overflow_add-from c = search rules

pub overflow_add-from-2 : goal.overflow_add-from-2
unfolding room_length
overflow_add-from-2 c = search rules

pub returns : goal.returns
returns c =
    let a = c.args in
    puts-as (sop-as (lent a.coefficients.now a.powers.now) a.from)
    (puts_then c.put-a.ensures
    (puts_then c.put_value-b.ensures
    (puts_then c.put_value-c.ensures
    (puts_then c.put_value-d.ensures c.put.ensures))))
