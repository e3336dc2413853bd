use Rattle.pixel.specs.OrderedHold.{not_above}
use Rattle.pixel.proofs.at_most.Goals as goal

pub returns-then-x-hi : goal.returns-then-x-hi
unfolding not_above
returns-then-x-hi c = simp c.if-x-hi.true

pub returns : goal.returns
unfolding not_above
returns c = simp c.if-x-hi.false
