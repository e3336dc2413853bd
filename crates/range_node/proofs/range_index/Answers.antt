use Rattle.clf.specs.Nodes.{range_index}
use Rattle.range_node.proofs.range_index.Goals as goal

pub returns-then-same : goal.returns-then-same
unfolding range_index
returns-then-same c = rw (← c.same.ensures, c.if-same.true)

pub returns-then-same-2 : goal.returns-then-same-2
unfolding range_index
returns-then-same-2 c = rw (← c.same.ensures, c.if-same.false, ← c.same-else-same.ensures, c.if-same-2.true)

pub returns-then-same-3 : goal.returns-then-same-3
unfolding range_index
returns-then-same-3 c = rw (← c.same.ensures, c.if-same.false, ← c.same-else-same.ensures, c.if-same-2.false, ← c.same-else-same-2.ensures, c.if-same-3.true)

pub returns-then-same-4 : goal.returns-then-same-4
unfolding range_index
returns-then-same-4 c = rw (← c.same.ensures, c.if-same.false, ← c.same-else-same.ensures, c.if-same-2.false, ← c.same-else-same-2.ensures, c.if-same-3.false, ← c.same-else-same-3.ensures, c.if-same-4.true)

pub returns-else-same-4 : goal.returns-else-same-4
unfolding range_index
returns-else-same-4 c = rw (← c.same.ensures, c.if-same.false, ← c.same-else-same.ensures, c.if-same-2.false, ← c.same-else-same-2.ensures, c.if-same-3.false, ← c.same-else-same-3.ensures, c.if-same-4.false)
