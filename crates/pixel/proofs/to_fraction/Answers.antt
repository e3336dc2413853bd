use Rattle.pixel.specs.Scale.{to_fraction}
use Rattle.pixel.proofs.to_fraction.Goals as goal

pub returns-then-scale : goal.returns-then-scale
unfolding to_fraction
returns-then-scale c = simp c.if-scale.true

pub returns : goal.returns
unfolding to_fraction
returns c = simp c.if-scale.false
