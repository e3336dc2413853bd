use Rattle.cdl_node.proofs.Cdls.{cdl-refused, cdl-goes}
use Rattle.cdl_node.proofs.cdl_child.Goals as goal

pub returns-then-k-ne0 : goal.returns-then-k-ne0
returns-then-k-ne0 c =
    λ st v. cdl-refused _ _ _ _ st v _ _ _ c.part-w.ensures c.requires.0 c.requires.1 _ c.cdl_fault-k.ensures _ c.if-k-ne0.true

pub returns : goal.returns
returns c =
    λ st v. cdl-goes _ _ _ _ st v _ _ _ c.part-w.ensures c.requires.0 c.requires.1 _ c.cdl_fault-k.ensures _ _ c.if-k-ne0.false (c.cdl_body.ensures st v)
