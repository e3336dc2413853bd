-- A LUT1D whose entries are numbers of the table room.
use Rattle.std.specs.Prelude.{ℕ, ◌+◌, ◌*◌, Bool, cond, ◌&&◌, ◌||◌, ◌==◌, nat_le, Float}
use Rattle.room.specs.Room.{Room, room_length}
use Rattle.pixel_room.specs.Room.{number_at}
use Rattle.pixel.specs.declared.Pixel.{Pixel}
use Rattle.pixel.specs.declared.Fractions.{Fractions}
use Rattle.pixel.specs.Scale.{to_fractions}
use Rattle.pixel_lut.specs.Lut1d.{looked_up}

-- 'entry by entry': where the table starts at number `at`, entry i of a column. 'Entries are already in outBitDepth.'
unfoldable pub entry_at : Room → ℕ → ℕ → ℕ → ℕ → Float
entry_at m at columns column i = number_at m (at + (i * columns + column))

-- one column serves all three components; of three each component has its own
unfoldable pub column_of : ℕ → ℕ → ℕ
column_of columns component = cond (columns == 3) component 0

-- '`dim` n and 1 or 3, n from 2 to 65,536', and every number of the table is in the room
unfoldable pub table_in : ℕ → ℕ → ℕ → ℕ → Bool
table_in room at n columns = nat_le 2 n && (nat_le n 65536 && ((columns == 1 || columns == 3) && nat_le (at + n * columns) room))

unfoldable pub looked_up_all : Room → ℕ → ℕ → ℕ → Fractions → Pixel
looked_up_all m at n columns x = record {
  r = (looked_up (entry_at m at columns (column_of columns 0)) n x.r).0;
  g = (looked_up (entry_at m at columns (column_of columns 1)) n x.g).0;
  b = (looked_up (entry_at m at columns (column_of columns 2)) n x.b).0;
}

-- a LUT1D's step on a pixel. So that every call has an answer: where the room does not hold such a table, the pixel stays as it is. A valid list has no such LUT1D (running judges 16 first).
unfoldable pub lut1d_pixel : Room → ℕ → ℕ → ℕ → Float → Pixel → Pixel
lut1d_pixel m at n columns inScale x =
    cond (table_in (room_length m) at n columns)
    (looked_up_all m at n columns (to_fractions inScale x))
    x
