-- In a valid list every node's table stands in the room. Assumes nothing.
use mathlib.Core.Path.{◌≡◌, refl}
use mathlib.Core.Bool.{true, ◌&&◌, ◌||◌}
use mathlib.Core.List.{List, [], ◌∷◌, map}
use Prim.Native.Nat.{ℕ, ◌+◌, ◌*◌, ◌≤◌}
use borrow.Author.Tests.{le-leb}
use lib.Dec.{eqb, leb}
use Rattle.process_list.specs.declared.Kind.{Kind}
use Rattle.process_list.specs.declared.Kind.TheVariants.{Matrix, Lut1d, Range, Cdl, Lut3d, OneEnd}
use Rattle.process_list.specs.declared.Node.{Node}
use Rattle.process_list.specs.declared.ProcessList.{ProcessList}
use Rattle.process_list.specs.List.{most_entries, most_points, numbers_of, nodes_of}
use Rattle.room.specs.Room.{Room, room_length}
use Rattle.valid.specs.Valid.{every, table_right, cube_right, shape_right, sound, element_of, elements_of, is_valid}
use Rattle.valid.proofs.Elements.{both_true, sound-shaped, sound-inside, valid-parts}
use Rattle.pixel_lut.specs.Table.{table_in}
use Rattle.pixel_cube.specs.Table.{cube_in}
use Rattle.running.specs.Running.{table_stands, tables_stand}

-- a carried shape whose numbers stand in the room
stands : (room at : ℕ) (k : Kind) → shape_right k ≡ true → at + numbers_of k ≤ room → table_stands room at k ≡ true
unfolding shape_right table_right cube_right numbers_of table_in cube_in
stands room at (Matrix wide) s h = refl
stands room at (Lut1d n c) s h =
    let p = both_true (leb 2 n && leb n most_entries) (eqb c 1 || eqb c 3) s in
    let q = both_true (leb 2 n) (leb n most_entries) p.0 in
    rw (q.0, q.1, p.1, le-leb (at + n * c) room h)
stands room at (Lut3d n i) s h =
    let q = both_true (leb 2 n) (leb n most_points) s in
    rw (q.0, q.1, le-leb (at + n * n * n * 3) room h)
stands room at (Range style) s h = refl
stands room at (Cdl style) s h = refl
stands room at (OneEnd end) s h = refl

all-stand : (m : Room) (ns : List Node) → every sound (map (element_of m) ns) ≡ true → tables_stand m ns ≡ true
unfolding tables_stand every
all-stand m [] h = refl
all-stand m (n ∷ ns) h =
    let p = both_true (sound (element_of m n)) (every sound (map (element_of m) ns)) h in
    rw (stands (room_length m) n.at n.kind (sound-shaped m n p.0) (sound-inside m n p.0)) (all-stand m ns p.1)

pub valid-stand : (l : ProcessList) (m : Room) → is_valid l m ≡ true → tables_stand m (nodes_of l) ≡ true
unfolding elements_of
valid-stand l m v = all-stand m (nodes_of l) (valid-parts l m v).sounds
