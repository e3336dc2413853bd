use Rattle.pixel.specs.Scale.{to_code_value}
use Rattle.pixel.proofs.to_code_value.Goals as goal

pub returns-then-scale : goal.returns-then-scale
unfolding to_code_value
returns-then-scale c = simp c.if-scale.true

pub returns : goal.returns
unfolding to_code_value
returns c = simp c.if-scale.false
