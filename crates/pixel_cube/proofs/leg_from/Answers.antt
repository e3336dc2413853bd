use Rattle.pixel_cube.specs.Ways.{leg_from}
use Rattle.pixel_cube.proofs.leg_from.Goals as goal

pub returns-then-part : goal.returns-then-part
unfolding leg_from
returns-then-part c = rw (← c.part_on-part.ensures) (simp c.if-part.true)

pub returns : goal.returns
unfolding leg_from
returns c = rw (← c.part_on-part.ensures) (simp (c.if-part.false, c.raised.ensures))
