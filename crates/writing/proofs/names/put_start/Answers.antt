use Rattle.text_out.proofs.Laws.{puts_then}
use Rattle.written_form.proofs.Tail.{start_text}
use Rattle.writing.proofs.names.put_start.Goals as goal

-- Name, depths, id, style. Assumes nothing.
pub returns : goal.returns
unfolding start_text
returns c =
    puts_then c.put-a.ensures
    (puts_then c.put_name-b.ensures
    (puts_then c.put_depths-c.ensures (puts_then c.put_id-d.ensures (puts_then c.put_style-e.ensures c.put.ensures))))
