use borrow.Author.Rules.{rules}
use Rattle.node_parts.proofs.Reading.{node-kept}
use Rattle.element.proofs.element.Goals as goal

pub returns : goal.returns
returns c = rw c.kept_or_cleared.ensures.0 (node-kept _ _ _ _ _ _ _ _ c.element_stored-read.ensures c.kept_or_cleared.ensures.1)
