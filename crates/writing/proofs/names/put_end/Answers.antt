use Rattle.text_out.proofs.Laws.{puts_then}
use Rattle.written_form.proofs.Tail.{end_text}
use Rattle.writing.proofs.names.put_end.Goals as goal

-- An end tag. Assumes nothing.
pub returns : goal.returns
unfolding end_text
returns c =
    puts_then c.put-a.ensures (puts_then c.put_name-b.ensures c.put.ensures)
