use Rattle.pixel.specs.UnitHold.{unit-hold}
use Rattle.pixel.proofs.hold_unit.Goals as goal

pub returns-then-y : goal.returns-then-y
returns-then-y c = rw (← unit-hold, ← c.from_zero-y.ensures) (simp c.if-y.true)

pub returns : goal.returns
returns c = rw (← unit-hold, ← c.from_zero-y.ensures) (simp c.if-y.false)
