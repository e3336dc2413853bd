use Rattle.tags.specs.Rules.{rules_of}
use Rattle.tags.proofs.Words.{matrix_shape-fault}
use Rattle.tags.proofs.text_fault.Goals as goal

pub returns-in-MatrixArray : goal.returns-in-MatrixArray
unfolding rules_of
returns-in-MatrixArray c = rw (c.in-MatrixArray.is, c.attribute_fault.ensures, c.either.ensures, matrix_shape-fault)

pub returns-in-Lut3d : goal.returns-in-Lut3d
unfolding rules_of
returns-in-Lut3d c = rw (c.in-Lut3d.is, c.node_text_fault-in-Lut3d.ensures, c.attribute_fault-in-Lut3d.ensures, c.either-right.ensures)
