use Rattle.pixel.specs.Cdl.{sat_pixel}
use Rattle.pixel.proofs.sat_pixel.Goals as goal

pub returns-then-sat : goal.returns-then-sat
unfolding sat_pixel
returns-then-sat c = simp c.if-sat.true

pub returns : goal.returns
unfolding sat_pixel
returns c = simp c.if-sat.false (cc)
