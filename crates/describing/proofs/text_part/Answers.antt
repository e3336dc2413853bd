use Rattle.describing.proofs.Texts.{found_or_none}
use Rattle.describing.proofs.text_part.Goals as goal

pub returns : goal.returns
returns c = rw c.unwrap_or.ensures (found_or_none _ _ _ _ c.node_text.ensures c.no_part.ensures)
