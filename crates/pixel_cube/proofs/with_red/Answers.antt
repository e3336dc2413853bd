use Rattle.pixel_cube.specs.Cube.{insert_axis}
use Rattle.pixel_cube.proofs.with_red.Goals as goal

pub returns-then-part_on-red : goal.returns-then-part_on-red
unfolding insert_axis
returns-then-part_on-red c =
    rw (← c.part_on.ensures, ← c.part_on-red.ensures) (simp c.if-part_on-red.true)

pub returns-then-part_on-red-2 : goal.returns-then-part_on-red-2
unfolding insert_axis
returns-then-part_on-red-2 c =
    rw (← c.part_on-2.ensures, ← c.part_on.ensures, ← c.part_on-red.ensures) (simp (c.if-part_on-red.false, c.if-part_on-red-2.true))

pub returns : goal.returns
unfolding insert_axis
returns c =
    rw (← c.part_on-2.ensures, ← c.part_on.ensures, ← c.part_on-red.ensures) (simp (c.if-part_on-red.false, c.if-part_on-red-2.false))
