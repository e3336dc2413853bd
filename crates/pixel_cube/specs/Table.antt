-- A LUT3D whose entries are numbers of the table room (document 02, W-201).
use Rattle.std.specs.Prelude.{Bool, cond, ◌&&◌, ℕ, ◌+◌, ◌*◌, leb, Float}
use Rattle.process_list.specs.declared.Interpolation.{Interpolation}
use Rattle.process_list.specs.List.{most_points, cube_numbers}
use Rattle.room.specs.Room.{Room, room_length}
use Rattle.pixel_room.specs.Room.{number_at}
use Rattle.pixel.specs.declared.Pixel.{Pixel}
use Rattle.pixel.specs.declared.Fractions.{Fractions}
use Rattle.pixel.specs.Scale.{to_fractions}
use Rattle.pixel_cube.specs.declared.Corner.{Corner}
use Rattle.pixel_cube.specs.Cube.{interpolated_by}

-- 'blue fastest, red slowest': how many entries stand before that of a corner, n being on each axis
unfoldable pub place_of : ℕ → Corner → ℕ
place_of n c = (c.red * n + c.green) * n + c.blue

-- where the table starts at number `at`: the component (0 red, 1 green, 2 blue) of the entry of a corner. As those of a LUT1D, 'entries are already in outBitDepth'
unfoldable pub entry_at : Room → ℕ → ℕ → ℕ → Corner → Float
entry_at m at n component c = number_at m (at + (place_of n c * 3 + component))

-- '`dim` "n n n 3" with n from 2 to 33', and every number of the table is in the room
unfoldable pub cube_in : ℕ → ℕ → ℕ → Bool
cube_in room at n = leb 2 n && (leb n most_points && leb (at + cube_numbers n) room)

-- each component by itself, from that component of the entries
unfoldable pub interpolated_all : Room → ℕ → ℕ → Interpolation → Fractions → Pixel
interpolated_all m at n interpolation x = record {
  r = (interpolated_by interpolation (entry_at m at n 0) n x).0;
  g = (interpolated_by interpolation (entry_at m at n 1) n x).0;
  b = (interpolated_by interpolation (entry_at m at n 2) n x).0;
}

-- a LUT3D's step on a pixel. So that every call has an answer: where the room does not hold such a table, the pixel stays as it is. A valid list has no such LUT3D (running judges 16 first).
unfoldable pub lut3d_pixel : Room → ℕ → ℕ → Interpolation → Float → Pixel → Pixel
lut3d_pixel m at n interpolation inScale x =
    cond (cube_in (room_length m) at n)
    (interpolated_all m at n interpolation (to_fractions inScale x))
    x
