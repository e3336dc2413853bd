use Rattle.pixel.proofs.OrderedHold.{ordered-hold}
use Rattle.pixel.proofs.hold_ordered.Goals as goal

pub returns-then-z-lo : goal.returns-then-z-lo
returns-then-z-lo c = rw (← ordered-hold _ _ _ c.requires, ← c.at_most-z.ensures) (simp c.if-z-lo.true)

pub returns : goal.returns
returns c = rw (← ordered-hold _ _ _ c.requires, ← c.at_most-z.ensures) (simp c.if-z-lo.false)
