-- The definitions answer each question of W-204's tables. Assumes nothing.
use mathlib.Core.Path.{◌≡◌, refl}
use mathlib.Core.List.{map}
use Rattle.decimal_value.specs.Value.{positive}
use Rattle.xml.specs.Xml.{entity}
use Rattle.clf.specs.Numbers.{value_element}
use Rattle.clf.specs.Nodes.{matrix, matrix_shape, lut1d, lut_columns, lut_shape, range_index, one_end_allowed, one_end_allowed_by, range, sop_node, sat_node, asc_cdl}
use Rattle.clf.specs.Reading.{description_asked}
use Rattle.look.specs.Replacing.{start, element, replace, call}
use Rattle.check_line.specs.Line.{refusal_text, line_text, reading_text, check_text}
use Rattle.clf_c.specs.Applying.{apply_of}
use Rattle.examples.specs.Bounds as Bounds
use Rattle.examples.proofs.Runs.{runs}
use Rattle.examples.proofs.Readings.{reads}

pub tokens-are : map Bounds.outcome Bounds.tokens ≡ Bounds.tokens_answers
unfolding Bounds.tokens Bounds.tokens_answers runs reads entity matrix matrix_shape
tokens-are = refl

pub held-are : map Bounds.outcome Bounds.held ≡ Bounds.held_answers
unfolding Bounds.held Bounds.held_answers runs reads entity matrix matrix_shape
held-are = refl

pub placed-are : map Bounds.outcome Bounds.placed ≡ Bounds.placed_answers
unfolding Bounds.placed Bounds.placed_answers runs reads entity matrix matrix_shape
placed-are = refl

pub ruled-are : map Bounds.outcome Bounds.ruled ≡ Bounds.ruled_answers
unfolding Bounds.ruled Bounds.ruled_answers runs reads entity asc_cdl sop_node value_element positive
ruled-are = refl

pub others-are : map Bounds.outcome Bounds.others ≡ Bounds.others_answers
unfolding Bounds.others Bounds.others_answers runs reads entity matrix matrix_shape lut1d lut_columns lut_shape range_index one_end_allowed one_end_allowed_by range asc_cdl sat_node value_element
others-are = refl

pub lines_are : Bounds.lines ≡ Bounds.lines_answers
unfolding Bounds.lines Bounds.lines_answers runs reads matrix matrix_shape line_text reading_text check_text refusal_text
lines_are = refl

pub checks-are : Bounds.checks ≡ Bounds.checks_answers
unfolding Bounds.checks Bounds.checks_answers runs reads matrix matrix_shape description_asked apply_of
checks-are = refl

pub reads-are : Bounds.reads ≡ Bounds.reads_answers
unfolding Bounds.reads Bounds.reads_answers runs reads matrix matrix_shape
reads-are = refl

pub calls_are : Bounds.calls ≡ Bounds.calls_answers
unfolding Bounds.calls Bounds.calls_answers runs reads matrix matrix_shape start element replace call
calls_are = refl
