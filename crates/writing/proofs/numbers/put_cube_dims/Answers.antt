use Rattle.text_out.proofs.Laws.{puts_then}
use Rattle.written_form.proofs.Tail.{dims_text}
use Rattle.writing.proofs.numbers.put_cube_dims.Goals as goal

-- Two axes with a space behind each; the third axis and the columns stand as those of a table. Assumes nothing.
pub returns : goal.returns
unfolding dims_text
returns c =
    puts_then c.put_digits-a.ensures
    (puts_then c.put-b.ensures (puts_then c.put_digits-c.ensures (puts_then c.put-d.ensures c.put_table_dims.ensures)))
