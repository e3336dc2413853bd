use Rattle.range_node.specs.Code.{ordered_in}
use Rattle.range_node.proofs.in_order.Goals as goal

pub returns-then-less : goal.returns-then-less
unfolding ordered_in
returns-then-less c =
    rw (
      ← c.number_at-a.ensures,
      ← c.number_at-b.ensures,
      ← c.number_at-c.ensures,
      ← c.number_at-d.ensures,
      ← c.less.ensures,
      c.if-less.true,
    ) c.at_most.ensures

pub returns-else-less : goal.returns-else-less
unfolding ordered_in
returns-else-less c = rw (← c.number_at-a.ensures, ← c.number_at-b.ensures, ← c.less.ensures, c.if-less.false)
