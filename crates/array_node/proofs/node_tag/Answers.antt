use mathlib.Core.Path.{refl}
use Rattle.tags.specs.Rules.{rules_of}
use Rattle.array_node.proofs.node_tag.Goals as goal

pub returns-in-Matrix : goal.returns-in-Matrix
unfolding rules_of
returns-in-Matrix c = rw c.in-Matrix.is refl

pub returns-in-Lut1d : goal.returns-in-Lut1d
unfolding rules_of
returns-in-Lut1d c = rw c.in-Lut1d.is refl

pub returns-in-Lut3d : goal.returns-in-Lut3d
unfolding rules_of
returns-in-Lut3d c = rw c.in-Lut3d.is refl
