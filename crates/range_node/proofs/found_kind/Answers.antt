use mathlib.Core.Path.{ap}
use Rattle.process_list.specs.declared.Kind.TheVariants.{OneEnd}
use Rattle.range_node.specs.Code.{kind_found}
use Rattle.range_node.proofs.found_kind.Goals as goal

pub returns-then-range_all : goal.returns-then-range_all
unfolding kind_found
returns-then-range_all c = rw (← c.range_all.ensures, c.if-range_all.true)

pub returns-else-range_all : goal.returns-else-range_all
unfolding kind_found
returns-else-range_all c = rw (← c.range_all.ensures, c.if-range_all.false) (ap OneEnd c.found_end.ensures)
