use Rattle.range_node.proofs.Ranges.{range-refused, range-goes}
use Rattle.range_node.proofs.range_child.Goals as goal

pub returns-then-k-ne0 : goal.returns-then-k-ne0
returns-then-k-ne0 c =
    λ allowed st v. range-refused _ _ _ st v _ _ _ _ c.part-w.ensures c.requires.0 c.requires.1 _ c.range_fault-k.ensures allowed c.if-k-ne0.true

pub returns : goal.returns
returns c =
    λ allowed st v. range-goes _ _ _ st v _ _ _ _ c.part-w.ensures c.requires.0 c.requires.1 _ c.range_fault-k.ensures allowed _ c.if-k-ne0.false (c.range_body.ensures st v)
