-- What computes when a file with a LUT3D is read: a statement that unfolds `reads` unfolds all that its line names. Assumes nothing.
use Rattle.grammar.specs.Parse.{loop_p}
use Rattle.xml.specs.Bytes as Bytes
use Rattle.xml.specs.Xml as Xml
use Rattle.xml.specs.Elements.{between, only_end}
use Rattle.process_list.specs.List.{verdict}
use Rattle.decimal_write.specs.Written.{digits, digits_within}
use Rattle.clf.specs.Numbers.{token, numbers}
use Rattle.clf.specs.Nodes.{depth_of, cube_dim, cube_shape, array, lut3d, node_name}
use Rattle.clf.specs.List.{child_fault, child_body, list_item, prologue, head, document, tail}
use Rattle.clf.specs.Reading.{nodes_among, list_reading, read_text, read}

unfoldable pub reads : Unit {0}
unfolding loop_p Bytes.same Bytes.is_space Bytes.is_letter Bytes.is_digit Bytes.is_name_byte Bytes.is_quote Xml.spaces Xml.name Xml.text Xml.is_named Xml.text_of Xml.attribute Xml.start_tag
    Xml.open_name Xml.close_name Xml.end_tag between only_end verdict digits digits_within token numbers depth_of cube_dim cube_shape array lut3d node_name child_fault child_body list_item prologue
    head document tail nodes_among list_reading read_text read
reads = tt
