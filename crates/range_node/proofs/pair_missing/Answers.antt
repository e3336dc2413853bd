use Rattle.range_node.specs.Code.{pair_missing}
use Rattle.range_node.proofs.pair_missing.Goals as goal

pub returns-then-not-allowed : goal.returns-then-not-allowed
unfolding pair_missing
returns-then-not-allowed c = rw c.if-not-allowed.true

pub returns : goal.returns
unfolding pair_missing
returns c =
    rw (c.if-not-allowed.false, ← c.in_index.ensures, ← c.number_at-a.ensures, ← c.out_index.ensures, ← c.number_at-b.ensures, ← c.equal.ensures) c.unless.ensures
