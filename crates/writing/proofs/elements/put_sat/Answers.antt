use Rattle.room.specs.Room.{lent, room_length}
use Rattle.text_out.proofs.Laws.{puts-as, puts_then}
use Rattle.writing.proofs.Laws.{sat-as}
use borrow.Author.Rules.{rules}
use Rattle.writing.proofs.elements.put_sat.Goals as goal

-- Saturation. Assumes nothing.
pub overflow_add-from : goal.overflow_add-from
unfolding room_length
overflow_add-from c = search rules

pub returns : goal.returns
returns c =
    let a = c.args in
    puts-as (sat-as (lent a.coefficients.now a.powers.now) a.from)
    (puts_then c.put-a.ensures (puts_then c.put_value-b.ensures c.put.ensures))
