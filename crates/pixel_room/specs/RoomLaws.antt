-- A number inside the room is the f64 of what its slices hold there; past the end it is 0. Assumes nothing.
use Rattle.std.specs.Prelude.{◌≡◌, ℕ, ◌≤◌, ◌<◌, pos, get_or}
use Rattle.std.proofs.Common.{lt-ltb, le-ltb}
use Rattle.decimal_value.specs.Value.{value_of}
use Rattle.pixel.specs.F64 as F64
use Rattle.room.specs.Room.{Room, room_length}
use Rattle.pixel_room.specs.Room.{number_at}

pub number-inside : (m : Room) (k : ℕ) → k < room_length m
    → number_at m k ≡ value_of (record { coefficient = get_or m.coefficients k (pos 0); power = get_or m.powers k (pos 0) })
unfolding number_at
number-inside m k h = simp (lt-ltb k (room_length m) h)

pub number_past : (m : Room) (k : ℕ) → room_length m ≤ k → number_at m k ≡ F64.zero
unfolding number_at
number_past m k h = simp (le-ltb k (room_length m) h)
