use Rattle.pixel.specs.Cdl.{held_for_fwd}
use Rattle.pixel.proofs.held_for_fwd.Goals as goal

pub returns-then-clamp : goal.returns-then-clamp
unfolding held_for_fwd
returns-then-clamp c = simp c.if-clamp.true (cc)

pub returns : goal.returns
unfolding held_for_fwd
returns c = simp c.if-clamp.false
