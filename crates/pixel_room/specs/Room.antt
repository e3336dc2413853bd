-- The numbers of the table room as f64.
use Rattle.std.specs.Prelude.{Bool, cond, List, [], ◌∷◌, ℕ, ◌+◌, ltb, pos, get_or, Float}
use Rattle.decimal_value.specs.Value.{value_of}
use Rattle.room.specs.Room.{Room, room_length}
use Rattle.pixel.specs.F64 as F64

-- the f64 of number k of the room, which has a first number 0; so that every k has an answer, it is 0 past the room's end,
-- where no node of a valid list has a number (running judges 16 first)
unfoldable pub number_at : Room → ℕ → Float
number_at m k =
    cond (ltb k (room_length m))
    (value_of (record { coefficient = get_or m.coefficients k (pos 0); power = get_or m.powers k (pos 0) }))
    F64.zero

-- 'Matrix: .. row by row': the row whose numbers stand from k on. A row of a 3x3 has three; its fourth number is 0 here, and never used
unfoldable pub row_at : Room → ℕ → Bool → List Float
row_at m k wide =
    number_at m k
    ∷ number_at m (k + 1)
    ∷ number_at m (k + 2)
    ∷ cond wide (number_at m (k + 3)) F64.zero
    ∷ []

-- the three rows of a Matrix whose numbers stand from `at` on; wide says that it is 3x4
unfoldable pub rows_at : Room → ℕ → Bool → List (List Float)
rows_at m at wide =
    row_at m at wide
    ∷ row_at m (at + cond wide 4 3) wide
    ∷ row_at m (at + cond wide 8 6) wide
    ∷ []
