use Rattle.std.proofs.Common.{refl, ◌∙◌}
use Rattle.pixel_lut.specs.Lut1d.{stepped}
use Rattle.pixel_cube.proofs.along.Goals as goal

pub returns-then-place : goal.returns-then-place
unfolding stepped
returns-then-place g c = λ e h. rw c.if-place.true (h.0 _ c.entry-e.ensures)

pub returns : goal.returns
unfolding stepped
returns g c = λ e h. c.interpolated.ensures ∙ rw (h.0 _ c.entry-e.ensures, h.1 c.if-place.false _ c.entry.ensures, c.if-place.false) refl
