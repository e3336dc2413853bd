use Rattle.late_nodes.proofs.One.{numbered-call}
use Rattle.late_nodes.proofs.replace_numbered.Goals as goal

pub returns : goal.returns
returns c =
    numbered-call _ c.held.ensures.array c.replace_numbered.result _ _ _ _ _ c.replace_numbered.ensures
