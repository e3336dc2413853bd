-- What `cube_in` says, and what a LUT3D's pixel is in either case. Assumes nothing.
use Rattle.std.specs.Prelude.{◌≡◌, refl, Bool, true, false, ◌&&◌, ℕ, ◌+◌, ◌≤◌, T, leb, Float}
use Rattle.std.proofs.Common.{sym, subst, leb-true}
use Rattle.process_list.specs.declared.Interpolation.{Interpolation}
use Rattle.process_list.specs.List.{most_points, cube_numbers}
use Rattle.room.specs.Room.{Room, room_length}
use Rattle.pixel.specs.declared.Pixel.{Pixel}
use Rattle.pixel.specs.Scale.{to_fractions}
use Rattle.pixel_cube.specs.Table.{cube_in, interpolated_all, lut3d_pixel}

-- a table of the carried shape that a room of this length holds
pub record Held (room at n : ℕ) : Type 0 where
  pub some : 2 ≤ n
  pub most : n ≤ most_points
  pub inside : at + cube_numbers n ≤ room

pub held : (room at n : ℕ) → cube_in room at n ≡ true → Held room at n
unfolding cube_in
held room at n h = go (leb 2 n) (leb n most_points) (leb (at + cube_numbers n) room) refl refl refl (subst T (sym h) tt)
  where
    go : (p q r : Bool) → leb 2 n ≡ p → leb n most_points ≡ q → leb (at + cube_numbers n) room ≡ r → T (p && (q && r)) → Held room at n
    go true true true a b c t = record { some = leb-true _ _ a; most = leb-true _ _ b; inside = leb-true _ _ c }
    go true true false a b c t = absurd t
    go true false r a b c t = absurd t
    go false q r a b c t = absurd t

pub lut3d-table : (m : Room) (at n : ℕ) (interpolation : Interpolation) (inScale : Float) (x : Pixel) → cube_in (room_length m) at n ≡ true
    → lut3d_pixel m at n interpolation inScale x ≡ interpolated_all m at n interpolation (to_fractions inScale x)
unfolding lut3d_pixel
lut3d-table m at n interpolation inScale x h = simp h

pub lut3d-no-table : (m : Room) (at n : ℕ) (interpolation : Interpolation) (inScale : Float) (x : Pixel) → cube_in (room_length m) at n ≡ false
    → lut3d_pixel m at n interpolation inScale x ≡ x
unfolding lut3d_pixel
lut3d-no-table m at n interpolation inScale x h = simp h
