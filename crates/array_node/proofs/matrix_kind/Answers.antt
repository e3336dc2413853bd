use Rattle.clf.specs.Nodes.{matrix_shape}
use Rattle.array_node.proofs.matrix_kind.Goals as goal

pub returns-then-same : goal.returns-then-same
unfolding matrix_shape
returns-then-same c = rw (← c.same.ensures, c.if-same.true)

pub returns-then-same-2 : goal.returns-then-same-2
unfolding matrix_shape
returns-then-same-2 c = rw (← c.same.ensures, c.if-same.false, ← c.same-else-same.ensures, c.if-same-2.true)

pub returns-else-same-2 : goal.returns-else-same-2
unfolding matrix_shape
returns-else-same-2 c = rw (← c.same.ensures, c.if-same.false, ← c.same-else-same.ensures, c.if-same-2.false)
