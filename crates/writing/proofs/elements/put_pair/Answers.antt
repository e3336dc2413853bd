use Rattle.room.specs.Room.{lent, room_length}
use Rattle.text_out.proofs.Laws.{puts-as, puts_then}
use Rattle.writing.proofs.Laws.{pair-as}
use borrow.Author.Rules.{rules}
use Rattle.writing.proofs.elements.put_pair.Goals as goal

-- The two values of one end of a Range. Assumes nothing.
pub overflow_add-from : goal.overflow_add-from
unfolding room_length
overflow_add-from c = search rules

pub returns : goal.returns
returns c =
    let a = c.args in
    puts-as (pair-as (lent a.coefficients.now a.powers.now) a.input.now a.output.now a.from)
    (puts_then c.put_value-a.ensures c.put_value.ensures)
