use Rattle.room.specs.Room.{room_length}
use Rattle.text_out.proofs.Laws.{puts_then}
use Rattle.written_form.proofs.Tail.{array_text}
use Rattle.writing.proofs.Laws.{cube-within}
use borrow.Author.Rules.{rules}
use Rattle.writing.proofs.numbers.put_cube.Goals as goal

-- An Array with the dims of a cube. Its entries fit, since its numbers stand in the room. Assumes nothing.
pub overflow_mul-entries : goal.overflow_mul-entries
unfolding room_length
overflow_mul-entries c =
    let w = cube-within c.args.from c.args.points _ c.requires in
    search rules

pub overflow_mul-entries-2 : goal.overflow_mul-entries-2
unfolding room_length
overflow_mul-entries-2 c =
    let w = cube-within c.args.from c.args.points _ c.requires in
    search rules

pub returns : goal.returns
unfolding array_text
returns c =
    puts_then c.put-a.ensures (puts_then c.put_cube_dims-b.ensures c.put_lines.ensures)
