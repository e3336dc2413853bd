use Rattle.room.specs.Room.{room_length}
use Rattle.std.proofs.Common.{ℕ, ◌+◌, ◌*◌, ◌<◌, mul-le-mul_right, suc-mul, arith}
use Rattle.pixel_lut.specs.Table.{entry_at}
use Rattle.pixel_lut.proofs.entry.Goals as goal

-- i rows and a column more are within n rows
reach : (i n column columns : ℕ) → i < n → column < columns → i * columns + column < n * columns
reach i n column columns h k = omega (arith, mul-le-mul_right columns h, suc-mul i columns)

pub overflow_mul-i : goal.overflow_mul-i
unfolding room_length
overflow_mul-i c = omega (arith, reach c.args.i c.args.n c.args.column c.args.columns c.requires.i_lt_n c.requires.column_lt_columns, c.requires.columns_bound)

pub overflow_add-i : goal.overflow_add-i
unfolding room_length
overflow_add-i c = omega (arith, reach c.args.i c.args.n c.args.column c.args.columns c.requires.i_lt_n c.requires.column_lt_columns, c.requires.columns_bound)

pub returns : goal.returns
unfolding entry_at
returns c = c.number_from.ensures
