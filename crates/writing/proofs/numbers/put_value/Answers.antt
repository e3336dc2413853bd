use Rattle.text_out.proofs.Laws.{puts_then}
use Rattle.written_form.proofs.Tail.{value_text}
use Rattle.writing.proofs.numbers.put_value.Goals as goal

-- A value element. Assumes nothing.
pub returns : goal.returns
unfolding value_text
returns c =
    puts_then c.put-a.ensures
    (puts_then c.put-b.ensures
    (puts_then c.put-c.ensures (puts_then c.put_row-d.ensures (puts_then c.put-e.ensures (puts_then c.put-f.ensures c.put.ensures)))))
