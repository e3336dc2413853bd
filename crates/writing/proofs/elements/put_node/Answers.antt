use Rattle.text_out.proofs.Laws.{puts_then}
use Rattle.valid.specs.Valid.{element_of}
use Rattle.written_form.proofs.Tail.{node_text}
use Rattle.writing.proofs.elements.put_node.Goals as goal

-- Start tag, content, end tag. Assumes nothing.
pub returns : goal.returns
unfolding node_text element_of
returns c =
    puts_then c.put_start-a.ensures (puts_then c.put_content-b.ensures c.put_end.ensures)
