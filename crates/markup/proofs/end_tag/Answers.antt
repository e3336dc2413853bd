use Rattle.markup.proofs.Tags.{end-tag}
use Rattle.markup.proofs.end_tag.Goals as goal

pub returns : goal.returns
returns c = rw c.settled.ensures (end-tag _ _ _ _ c.end_tag_alone.result c.end_tag_alone.ensures)
