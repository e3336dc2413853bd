use Rattle.pixel_cube.specs.Ways.{added}
use Rattle.pixel_cube.proofs.added.Goals as goal

pub returns-then-part : goal.returns-then-part
unfolding added
returns-then-part c = simp c.if-part.true

pub returns : goal.returns
unfolding added
returns c =
    rw (← c.entry-e.ensures) (simp (c.if-part.false, c.smaller.ensures, c.larger.ensures))
