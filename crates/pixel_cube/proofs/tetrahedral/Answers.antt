use Rattle.pixel_cube.specs.Ways.{walked, added_all}
use Rattle.pixel_cube.proofs.tetrahedral.Goals as goal

pub returns : goal.returns
unfolding walked added_all
returns c =
    rw (← c.entry-e.ensures, ← c.added-first.ensures, ← c.added-second.ensures, ← c.added-third.ensures) (simp c.hold.ensures)
