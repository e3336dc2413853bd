use Rattle.clf.specs.Nodes.{node_name}
use Rattle.nodes.proofs.node_name.Goals as goal

pub returns-then-same : goal.returns-then-same
unfolding node_name
returns-then-same c = rw (← c.same.ensures, c.if-same.true)

pub returns-then-same-2 : goal.returns-then-same-2
unfolding node_name
returns-then-same-2 c = rw (← c.same.ensures, c.if-same.false, ← c.same-else-same.ensures, c.if-same-2.true)

pub returns-then-same-3 : goal.returns-then-same-3
unfolding node_name
returns-then-same-3 c = rw (← c.same.ensures, c.if-same.false, ← c.same-else-same.ensures, c.if-same-2.false, ← c.same-else-same-2.ensures, c.if-same-3.true)

pub returns-then-same-4 : goal.returns-then-same-4
unfolding node_name
returns-then-same-4 c = rw (← c.same.ensures, c.if-same.false, ← c.same-else-same.ensures, c.if-same-2.false, ← c.same-else-same-2.ensures, c.if-same-3.false, ← c.same-else-same-3.ensures, c.if-same-4.true)

pub returns-then-same-5 : goal.returns-then-same-5
unfolding node_name
returns-then-same-5 c = rw (← c.same.ensures, c.if-same.false, ← c.same-else-same.ensures, c.if-same-2.false, ← c.same-else-same-2.ensures, c.if-same-3.false, ← c.same-else-same-3.ensures, c.if-same-4.false, ← c.same-else-same-4.ensures, c.if-same-5.true)

pub returns-then-same-6 : goal.returns-then-same-6
unfolding node_name
returns-then-same-6 c = rw (← c.same.ensures, c.if-same.false, ← c.same-else-same.ensures, c.if-same-2.false, ← c.same-else-same-2.ensures, c.if-same-3.false, ← c.same-else-same-3.ensures, c.if-same-4.false, ← c.same-else-same-4.ensures, c.if-same-5.false, ← c.same-else-same-5.ensures, c.if-same-6.true)

pub returns-then-same-7 : goal.returns-then-same-7
unfolding node_name
returns-then-same-7 c = rw (← c.same.ensures, c.if-same.false, ← c.same-else-same.ensures, c.if-same-2.false, ← c.same-else-same-2.ensures, c.if-same-3.false, ← c.same-else-same-3.ensures, c.if-same-4.false, ← c.same-else-same-4.ensures, c.if-same-5.false, ← c.same-else-same-5.ensures, c.if-same-6.false, ← c.same-else-same-6.ensures, c.if-same-7.true)

pub returns-else-same-7 : goal.returns-else-same-7
unfolding node_name
returns-else-same-7 c = rw (← c.same.ensures, c.if-same.false, ← c.same-else-same.ensures, c.if-same-2.false, ← c.same-else-same-2.ensures, c.if-same-3.false, ← c.same-else-same-3.ensures, c.if-same-4.false, ← c.same-else-same-4.ensures, c.if-same-5.false, ← c.same-else-same-5.ensures, c.if-same-6.false, ← c.same-else-same-6.ensures, c.if-same-7.false)
