use mathlib.Core.Path.{◌≡◌, sym, ◌∙◌}
use mathlib.Core.Bool.{Bool, true, false}
use Prim.Native.Nat.{ℕ}
use lib.Ieee.{Float}
use Rattle.process_list.specs.declared.Interpolation.{Interpolation}
use Rattle.room.specs.Room.{Room, lent, room_length}
use Rattle.pixel.specs.declared.Pixel.{Pixel}
use Rattle.pixel.specs.Scale.{to_fractions}
use Rattle.pixel.specs.declared.Fractions.{Fractions}
use Rattle.pixel_cube.specs.declared.Cell.{Cell}
use Rattle.pixel_cube.specs.Table.{entry_at, cube_in, interpolated_all, lut3d_pixel}
use Rattle.pixel_cube.specs.TableLaws.{held, lut3d-table, lut3d-no-table}
use Rattle.pixel_cube.specs.Ways.{cell_of, way_by, each_of}
use Rattle.pixel_cube.proofs.WaysLaws.{cell-inside, way-is}
use Rattle.pixel_cube.proofs.Keeps.{kept}
use Rattle.pixel_cube.proofs.lut3d_pixel.Goals as goal

-- the code's way on each component is the method
as_method : (m : Room) (at n : ℕ) (interpolation : Interpolation) (inScale : Float) (x : Pixel) {f : Fractions} {cell : Cell} {y : Pixel} → cube_in (room_length m) at n ≡ true
    → f ≡ to_fractions inScale x
    → cell ≡ cell_of n f
    → y ≡ each_of (entry_at m at n) (λ e. way_by interpolation e cell)
    → y ≡ lut3d_pixel m at n interpolation inScale x
unfolding interpolated_all
as_method m at n interpolation inScale x h k l e =
    let t = held (room_length m) at n h in
    let way = way-is n (to_fractions inScale x) t.some t.most in
    rw (e, l, k, lut3d-table m at n interpolation inScale x h, way (entry_at m at n 0) interpolation, way (entry_at m at n 1) interpolation, way (entry_at m at n 2) interpolation)

fits-as : (m : Room) (at n count : ℕ) (r q : Bool) → count ≡ room_length m → r ≡ cube_in count at n → r ≡ q → cube_in (room_length m) at n ≡ q
fits-as m at n count r q e f g = rw (← e) (sym f ∙ g)

pub returns-then-not-cube_in : goal.returns-then-not-cube_in
returns-then-not-cube_in c =
    let a = c.args in
    let m = lent a.coefficients.now a.powers.now in
    let none : cube_in (room_length m) a.at a.points ≡ false =
    fits-as m a.at a.points c.length-count.result c.cube_in.result false c.length-count.ensures c.cube_in.ensures c.if-not-cube_in.true in
    let k = kept m a.at a.points a.interpolation a.in_scale a.x a.x (sym (lut3d-no-table m a.at a.points a.interpolation a.in_scale a.x none)) in
    record { value = k.0; lut_keeps = k.1 }

pub interpolated_all-requires : goal.interpolated_all-requires
interpolated_all-requires c =
    let a = c.args in
    let m = lent a.coefficients.now a.powers.now in
    let t = held (room_length m) a.at a.points (fits-as m a.at a.points c.length-count.result c.cube_in.result true c.length-count.ensures c.cube_in.ensures c.if-not-cube_in.false) in
    record { n_bound = t.most; cell_inside = rw c.cell_of-cell.ensures (cell-inside a.points c.to_fractions.result t.some t.most) }

pub returns : goal.returns
returns c =
    let a = c.args in
    let m = lent a.coefficients.now a.powers.now in
    let in_room : cube_in (room_length m) a.at a.points ≡ true =
    fits-as m a.at a.points c.length-count.result c.cube_in.result true c.length-count.ensures c.cube_in.ensures c.if-not-cube_in.false in
    let k =
    kept m a.at a.points a.interpolation a.in_scale a.x c.interpolated_all.result
    (as_method m a.at a.points a.interpolation a.in_scale a.x in_room c.to_fractions.ensures c.cell_of-cell.ensures c.interpolated_all.ensures) in
    record { value = k.0; lut_keeps = k.1 }
