use native.Mathlib.Omega.{arith}
use Rattle.room.specs.Room.{lent}
use Rattle.text_out.proofs.Laws.{goes-start, goes_then, goes_end}
use Rattle.writing.proofs.NodeLaws.{item-is, items-length, node-asks, nodes-next, nodes-last}
use Rattle.writing.proofs.elements.put_nodes.Goals as goal

-- Assumes nothing.
pub loop-node-init : goal.loop-node-init
loop-node-init c = goes-start _ _ _

pub put_node-held-requires : goal.put_node-held-requires
put_node-held-requires c =
    let l = c.args.list in
    let h = c.held-count.ensures in
    let e = items-length l _ h in
    node-asks (lent c.args.coefficients.now c.args.powers.now) l c.requires c.loop-node.node-index (omega (arith, c.loop-node-test.true)) _
    (item-is l _ c.loop-node.node-index _ h c.loop-node-test.true)

pub loop-node-preserved : goal.loop-node-preserved
loop-node-preserved c =
    let a = c.args in
    let h = c.held-count.ensures in
    let e = items-length a.list _ h in
    let n = nodes-next (lent a.coefficients.now a.powers.now) a.list c.loop-node.node-index (omega (arith, c.loop-node-test.true)) _
    (item-is a.list _ c.loop-node.node-index _ h c.loop-node-test.true) in
    goes_then c.loop-node.invariant n c.put_node-held.ensures

pub returns : goal.returns
returns c =
    let a = c.args in
    let e = items-length a.list _ c.held-count.ensures in
    goes_end c.loop-node.invariant (nodes-last (lent a.coefficients.now a.powers.now) a.list c.loop-node.node-index (omega (arith, c.loop-node-test.false)))
