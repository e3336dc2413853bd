use Rattle.text_out.proofs.Laws.{puts_then}
use Rattle.writing.proofs.names.put_depths.Goals as goal

-- Both attributes, one after the other. Assumes nothing.
pub returns : goal.returns
returns c =
    puts_then c.put-a.ensures
    (puts_then c.put_depth-b.ensures (puts_then c.put-c.ensures (puts_then c.put_depth-d.ensures c.put.ensures)))
