-- A LUT3D's pixel keeps its corners on each component. Assumes nothing.
use mathlib.Core.Path.{◌≡◌, ◌∙◌}
use mathlib.Core.Bool.{not}
use Prim.Native.Nat.{ℕ, ◌+◌, ◌*◌}
use native.Mathlib.Omega.{arith}
use lib.Dec.{T}
use lib.Ieee.{Float, is_nan}
use Rattle.process_list.specs.declared.Interpolation.{Interpolation}
use Rattle.room.specs.Room.{Room, room_length}
use Rattle.pixel.specs.declared.Pixel.{Pixel}
use Rattle.pixel.specs.declared.Fractions.{Fractions}
use Rattle.pixel.specs.Scale.{to_fractions}
use Rattle.pixel_cube.specs.declared.Corner.{Corner}
use Rattle.pixel_cube.specs.Cube.{interpolated_by}
use Rattle.pixel_cube.specs.Table.{place_of, entry_at, interpolated_all, lut3d_pixel}
use Rattle.pixel_cube.specs.TableLaws.{held, lut3d-table}
use Rattle.pixel_cube.specs.Corners.{KeepsCorners, LutKeeps}
use Rattle.pixel_cube.proofs.CornersLaws.{keeps}
use Rattle.pixel_room.proofs.Known.{number-known}

entry_known : (m : Room) (at n component : ℕ) (c : Corner) → T (not (is_nan (entry_at m at n component c)))
unfolding entry_at
entry_known m at n component c = number-known m (at + (place_of n c * 3 + component))

module _ (m : Room) (at n : ℕ) (interpolation : Interpolation) (inScale : Float) (x y : Pixel) (e : y ≡ lut3d_pixel m at n interpolation inScale x) where
  pixel-keeps : LutKeeps m at n interpolation inScale x y
  unfolding interpolated_all
  pixel-keeps h =
      let t = held (room_length m) at n h in
      let f : Fractions = to_fractions inScale x in
      let on : (component : ℕ) → KeepsCorners interpolation (entry_at m at n component) n f (interpolated_by interpolation (entry_at m at n component) n f).0 =
      λ component. keeps (entry_at m at n component) n f t.some (omega arith) (entry_known m at n component) interpolation in
      rw (e ∙ lut3d-table m at n interpolation inScale x h) (record { red = on 0; green = on 1; blue = on 2 })

  -- both promises of a pixel
  pub kept : (y ≡ lut3d_pixel m at n interpolation inScale x) × LutKeeps m at n interpolation inScale x y
  kept = (e, pixel-keeps)
