use Rattle.late_nodes.proofs.One.{unnumbered-call}
use Rattle.late_nodes.proofs.replace_unnumbered.Goals as goal

pub returns : goal.returns
returns c =
    unnumbered-call _ c.held.ensures.array c.replace.result _ _ _ _ c.replace.ensures
