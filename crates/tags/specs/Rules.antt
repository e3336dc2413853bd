-- What each start tag asks of its attributes.
use Rattle.xml.specs.Xml.{Rules, plain}
use Rattle.clf.specs.Numbers.{value_rules}
use Rattle.clf.specs.Nodes.{node_rules, array_rules, matrix_shape, lut_shape, cube_shape, lut_names, lut_texts, cube_texts, range_texts, cdl_rules, not_empty_rules}
use Rattle.clf.specs.List.{list_rules}
use Rattle.tags.specs.declared.TagKind.{TagKind}
use Rattle.tags.specs.declared.TagKind.TheVariants.{Plain, Value, Holder, MatrixArray, Lut1dArray, Lut3dArray, Matrix, Lut1d, Lut3d, Range, Cdl, ProcessList}

unfoldable pub rules_of : TagKind → Rules
rules_of Plain = plain
rules_of Value = value_rules
rules_of Holder = not_empty_rules
rules_of MatrixArray = array_rules matrix_shape
rules_of Lut1dArray = array_rules lut_shape
rules_of (Lut3dArray interpolation) = array_rules (cube_shape interpolation)
rules_of Matrix = node_rules (λ w. 0) (λ w t. 0)
rules_of Lut1d = node_rules lut_names lut_texts
rules_of Lut3d = node_rules (λ w. 0) cube_texts
rules_of Range = node_rules (λ w. 0) range_texts
rules_of Cdl = cdl_rules
rules_of ProcessList = list_rules
