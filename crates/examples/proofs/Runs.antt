-- What computes when a list is run over pixels: a statement that unfolds `runs` unfolds all that its line names. Assumes nothing.
use lib.Ieee.{add, sub, mul, div, lt, le, eq, of_int, of_bits}
use Rattle.decimal_read.specs.Number.{is_digit, is_mark, is_minus, behind_sign, digits_of, behind_digits, fraction_of, behind_fraction, is_empty, is_exponent, exponent_minus, exponent_digits}
use Rattle.decimal_read.specs.Number.{form_of, append, with_sign, digits_number, scale, zeros, trailing, normal, token_by, token_of}
use Rattle.decimal_value.specs.Value.{value_of, powered, ten_to, less, at_most, not_negative, is_one}
use Rattle.decimal_write.specs.Written as Written
use Rattle.process_list.specs.List as List
use Rattle.xml.specs.Bytes as Bytes
use Rattle.ids.specs.Ids.{id_allowed, held_id, no_id, id_text, is_held, is_given, is_among, repeats}
use Rattle.room.specs.Room.{room_length}
use Rattle.valid.specs.Valid.{every, pairs, numbers_at, element_of, elements_of, table_right, shape_right, carried, range_holds, slopes_hold, powers_hold, cdl_holds, rules_hold, depths_right, sound}
use Rattle.valid.specs.Valid.{gapless, is_blank, list_right, rest_zero, zero_from, is_valid}
use Rattle.pixel.specs.Hold.{hold}
use Rattle.pixel.specs.Scale.{to_fraction, to_fractions, to_code_value, to_code_values}
use Rattle.pixel.specs.Range.{range_scale, range_shift, range_line, range_component, range_pixel}
use Rattle.pixel.specs.Matrix.{row_out, matrix_pixel}
use Rattle.pixel.specs.Cdl.{held_for_fwd, sop, sop_pixel, sat_pixel, cdl_pixel}
use Rattle.pixel_room.specs.Room.{number_at, row_at, rows_at}
use Rattle.pixel_lut.specs.Lut1d.{position, floor_to, index, remainder, interpolated, stepped, looked_up}
use Rattle.pixel_lut.specs.Table.{entry_at, column_of, table_in, looked_up_all, lut1d_pixel}
use Rattle.pixel_run.specs.Step.{step_pixel}
use Rattle.pixel_run.specs.Prepare.{range_from, cdl_from}
use Rattle.pixel_run.specs.Each.{each_pixel}
use Rattle.pixel_run.specs.Finite.{first_not_finite}
use Rattle.running.specs.Running.{prepared_as, prepared_of, rows_as, rows_of, run_node, run_nodes, not_threes, not_finite, ran_of, pixels_of}

unfoldable pub runs : Unit {0}
unfolding
    is_digit is_mark is_minus behind_sign digits_of behind_digits fraction_of behind_fraction is_empty is_exponent exponent_minus exponent_digits form_of append with_sign digits_number scale
    zeros trailing normal token_by
    token_of
    value_of powered ten_to less at_most not_negative is_one Written.is_normal
    List.same_depth List.scale_of List.numbers_of List.unplaced List.with_position List.node_of List.total List.place_from List.placed List.all_numbers List.blank_node List.list_of List.nodes_of List.differs
    List.first_differs List.ids_of List.first_repeat List.judged
    Bytes.same id_allowed held_id no_id id_text is_held is_given is_among repeats
    room_length every pairs numbers_at element_of elements_of table_right shape_right carried range_holds slopes_hold powers_hold cdl_holds rules_hold depths_right sound gapless is_blank list_right rest_zero zero_from is_valid
    hold to_fraction to_fractions to_code_value to_code_values range_scale range_shift range_line range_component range_pixel row_out matrix_pixel held_for_fwd sop sop_pixel sat_pixel cdl_pixel
    number_at row_at rows_at position floor_to index remainder interpolated stepped looked_up entry_at column_of table_in looked_up_all lut1d_pixel
    step_pixel range_from cdl_from each_pixel first_not_finite prepared_as prepared_of rows_as rows_of run_node run_nodes not_threes not_finite ran_of pixels_of
    of_int of_bits add sub mul div lt le eq
runs = tt
