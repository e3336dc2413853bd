use Rattle.node_parts.specs.Code.{finished_node}
use Rattle.node_parts.proofs.finished.Goals as goal

pub returns : goal.returns
unfolding finished_node
returns c =
    let stand = c.node_texts-texts.ensures in
    rw (c.unplaced.ensures, c.depth_in-input.ensures, c.depth_in-output.ensures, c.id_in-id.ensures, stand.input.text, stand.output.text, stand.id.text)
