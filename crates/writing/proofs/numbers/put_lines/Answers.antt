use Rattle.text_out.proofs.Laws.{puts_then}
use Rattle.written_form.proofs.Tail.{lines_text}
use Rattle.writing.proofs.numbers.put_lines.Goals as goal

-- The end of the tag, the rows, the end tag. Assumes nothing.
pub returns : goal.returns
unfolding lines_text
returns c =
    puts_then c.put-a.ensures (puts_then c.put_rows-b.ensures c.put.ensures)
