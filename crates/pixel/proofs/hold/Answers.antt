use Rattle.pixel.specs.Hold.{hold}
use Rattle.pixel.proofs.hold.Goals as goal

pub returns-then-x-hi : goal.returns-then-x-hi
unfolding hold
returns-then-x-hi c = simp c.if-x-hi.true

pub returns-then-x-lo : goal.returns-then-x-lo
unfolding hold
returns-then-x-lo c = simp (c.if-x-hi.false, c.if-x-lo.true)

pub returns : goal.returns
unfolding hold
returns c = simp (c.if-x-hi.false, c.if-x-lo.false)
