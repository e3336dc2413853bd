use Rattle.pixel_lut.specs.Lut1d.{interpolated}
use Rattle.pixel_lut.proofs.interpolated.Goals as goal

pub returns-then-next-e : goal.returns-then-next-e
unfolding interpolated
returns-then-next-e c = simp c.if-next-e.true (cc)

pub returns : goal.returns
unfolding interpolated
returns c = simp c.if-next-e.false (cc)
