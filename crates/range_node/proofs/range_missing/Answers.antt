use Rattle.range_node.specs.Code.{missing_of}
use Rattle.range_node.proofs.range_missing.Goals as goal

pub returns-then-range_all : goal.returns-then-range_all
unfolding missing_of
returns-then-range_all c = rw (← c.range_all.ensures, c.if-range_all.true, ← c.in_order.ensures) c.unless.ensures

pub returns-then-only : goal.returns-then-only
unfolding missing_of
returns-then-only c = rw (← c.range_all.ensures, c.if-range_all.false, ← c.only.ensures, c.if-only.true) c.pair_missing.ensures

pub returns-then-only-2 : goal.returns-then-only-2
unfolding missing_of
returns-then-only-2 c = rw (← c.range_all.ensures, c.if-range_all.false, ← c.only.ensures, c.if-only.false, ← c.only-else-only.ensures, c.if-only-2.true) c.pair_missing-then-only-2.ensures

pub returns-else-only-2 : goal.returns-else-only-2
unfolding missing_of
returns-else-only-2 c = rw (← c.range_all.ensures, c.if-range_all.false, ← c.only.ensures, c.if-only.false, ← c.only-else-only.ensures, c.if-only-2.false)
