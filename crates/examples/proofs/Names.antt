-- The definitions answer each question of W-203's tables. Assumes nothing.
use mathlib.Core.Path.{◌≡◌, refl}
use mathlib.Core.List.{map}
use Rattle.process_list.specs.List.{judged}
use Rattle.ids.specs.Ids.{is_id_byte, all_id_bytes, id_right, held_id}
use Rattle.xml.specs.Xml.{entity}
use Rattle.xml.specs.Elements.{text_element}
use Rattle.clf.specs.Numbers.{value_element}
use Rattle.clf.specs.Nodes.{matrix, matrix_shape, lut1d, range, sat_node, asc_cdl}
use Rattle.examples.specs.Names as Names
use Rattle.examples.proofs.Runs.{runs}
use Rattle.examples.proofs.Readings.{reads}

pub read : map Names.outcome Names.files ≡ Names.file_answers
unfolding Names.files Names.named Names.wrong Names.passed Names.seen Names.ordered
    Names.file_answers Names.named_answers Names.wrong_answers Names.passed_answers Names.seen_answers Names.ordered_answers
    runs reads entity is_id_byte all_id_bytes id_right asc_cdl sat_node value_element text_element matrix matrix_shape lut1d range
read = refl

pub bytes-are : map is_id_byte Names.id_bytes ≡ Names.id_bytes_answers
unfolding Names.id_bytes Names.id_bytes_answers is_id_byte reads
bytes-are = refl

pub held-as : map held_id Names.texts ≡ Names.texts_answers
unfolding Names.texts Names.texts_answers held_id
held-as = refl

pub many : map (judged 400) Names.many_nodes ≡ Names.many_answers
unfolding Names.many_nodes Names.many_answers runs
many = refl

pub stood : map Names.is_reading Names.lists ≡ Names.lists_answers
unfolding Names.lists Names.lists_answers runs reads is_id_byte all_id_bytes id_right
stood = refl
