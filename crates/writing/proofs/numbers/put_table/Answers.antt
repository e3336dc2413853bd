use Rattle.text_out.proofs.Laws.{puts_then}
use Rattle.written_form.proofs.Tail.{array_text}
use Rattle.writing.proofs.numbers.put_table.Goals as goal

-- An Array with the dims of a table. Assumes nothing.
pub returns : goal.returns
unfolding array_text
returns c =
    puts_then c.put-a.ensures (puts_then c.put_table_dims-b.ensures c.put_lines.ensures)
