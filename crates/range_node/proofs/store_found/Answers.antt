use Rattle.range_node.specs.Code.{numbers_found}
use Rattle.range_node.proofs.store_found.Goals as goal

pub returns-then-range_all : goal.returns-then-range_all
unfolding numbers_found
returns-then-range_all c =
    rw (← c.range_all.ensures, c.if-range_all.true) c.store_all.ensures

pub returns-else-range_all : goal.returns-else-range_all
unfolding numbers_found
returns-else-range_all c =
    rw (← c.range_all.ensures, c.if-range_all.false, ← c.found_end-end.ensures) c.store_pair.ensures
