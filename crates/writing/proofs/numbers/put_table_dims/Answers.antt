use Rattle.text_out.proofs.Laws.{puts_then}
use Rattle.written_form.proofs.Tail.{dims_text}
use Rattle.writing.proofs.numbers.put_table_dims.Goals as goal

-- Rows, a space, columns. Assumes nothing.
pub returns : goal.returns
unfolding dims_text
returns c =
    puts_then c.put_digits-a.ensures (puts_then c.put-b.ensures c.put_digits.ensures)
