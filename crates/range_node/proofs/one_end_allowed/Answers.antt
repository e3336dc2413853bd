use Rattle.clf.specs.Nodes.{one_end_allowed}
use Rattle.range_node.proofs.one_end_allowed.Goals as goal

pub returns-then-range_clamps : goal.returns-then-range_clamps
unfolding one_end_allowed
returns-then-range_clamps c = rw (← c.range_clamps.ensures, c.if-range_clamps.true) c.same_depth.ensures

pub returns-else-range_clamps : goal.returns-else-range_clamps
unfolding one_end_allowed
returns-else-range_clamps c = rw (← c.range_clamps.ensures, c.if-range_clamps.false)
