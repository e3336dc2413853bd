-- Running pixels through a list (document 01, 'What a pixel goes through', and 'Running: 16, 14, 15 (lowest index)'). Definitions only.
use Rattle.std.specs.Prelude.{Bool, true, not, cond, ◌≡◌, List, [], ◌∷◌, ◌++◌, ℕ, ◌%◌, eqb, ltb, length, Float, Result, Ok, Err}
use Rattle.process_list.specs.declared.RangeEnd.{RangeEnd}
use Rattle.process_list.specs.declared.Kind.{Kind}
use Rattle.process_list.specs.declared.Kind.TheVariants.{Matrix, Lut1d, Range, Cdl, Lut3d, OneEnd}
use Rattle.process_list.specs.declared.Node.{Node}
use Rattle.process_list.specs.declared.ProcessList.{ProcessList}
use Rattle.process_list.specs.List.{nodes_of, scale_of, range_clamps, cdl_clamps}
use Rattle.valid.specs.Valid.{every, is_valid}
use Rattle.pixel.specs.F64 as F64
use Rattle.pixel_room.specs.Room.{number_at, rows_at}
use Rattle.pixel_lut.specs.Table.{table_in}
use Rattle.pixel_cube.specs.Table.{cube_in}
use Rattle.pixel_run.specs.declared.Prepared.{Prepared}
use Rattle.pixel_run.specs.declared.Prepared.TheVariants as prepared
use Rattle.pixel_run.specs.Prepare.{range_from, cdl_from, one_end_from}
use Rattle.room.specs.Room.{Room, room_length}
use Rattle.pixel_run.specs.Step.{step_pixel}
use Rattle.pixel_run.specs.Each.{each_pixel, EachInside}
use Rattle.pixel_run.specs.Finite.{first_not_finite}
use Rattle.running.specs.declared.RunFault.{RunFault}
use Rattle.running.specs.declared.RunFault.TheVariants.{NoReading, NotThrees, NotFinite}
use Rattle.refusals.specs.Refusals as Refusal

-- ---- one node

-- 'A prepared node is one of four kinds: Range with four and CDL with ten numbers, each carrying its own f64 parameters; Matrix and LUT1D with where their numbers stand.'
-- 02: 'a new kind or shape of node may be a prepared kind of its own'; LUT3D is one, with where its numbers stand, and a Range with one end, with its limit. The numbers stand in the room from `at` on
unfoldable pub prepared_as : Room → ℕ → Kind → Prepared
prepared_as m at (Matrix wide) = prepared.Matrix at wide
prepared_as m at (Lut1d entries columns) = prepared.Lut1d at entries columns
prepared_as m at (Lut3d points interpolation) = prepared.Lut3d at points interpolation
prepared_as m at (Range style) = range_from m at (range_clamps style)
prepared_as m at (Cdl style) = cdl_from m at (cdl_clamps style)
prepared_as m at (OneEnd end) = one_end_from m at end

unfoldable pub prepared_of : Room → Node → Prepared
prepared_of m n = prepared_as m n.at n.kind

-- 'For a Matrix its three rows of four are handed over by value'; the other kinds use no rows, and get rows of zeros
abbrev pub zero_row : List Float
zero_row = F64.zero ∷ F64.zero ∷ F64.zero ∷ F64.zero ∷ []

abbrev pub no_rows : List (List Float)
no_rows = zero_row ∷ zero_row ∷ zero_row ∷ []

unfoldable pub rows_as : Room → Prepared → List (List Float)
rows_as m (prepared.Matrix at wide) = rows_at m at wide
rows_as m (prepared.Lut1d at entries columns) = no_rows
rows_as m (prepared.Lut3d at points interpolation) = no_rows
rows_as m (prepared.Range minIn maxIn minOut maxOut clamp) = no_rows
rows_as m (prepared.Cdl slopeR slopeG slopeB offsetR offsetG offsetB powerR powerG powerB sat clamp) = no_rows
rows_as m (prepared.OneEnd end limit) = no_rows

unfoldable pub rows_of : Room → Node → List (List Float)
rows_of m n = rows_as m (prepared_of m n)

-- every pixel of a slice through one node, with the scales of the node's depths
unfoldable pub run_node : Room → Node → List Float → List Float
run_node m n xs =
    each_pixel
    (step_pixel (prepared_of m n) (rows_of m n) (scale_of n.input) (scale_of n.output) m)
    xs

-- the table that a node looks up stands in the room: a LUT1D's and a LUT3D's, for which `lut1d_pixel` and `lut3d_pixel` ask. The other kinds look up nothing
abbrev pub table_stands : ℕ → ℕ → Kind → Bool
table_stands room at (Matrix wide) = true
table_stands room at (Lut1d entries columns) = table_in room at entries columns
table_stands room at (Lut3d points interpolation) = cube_in room at points
table_stands room at (Range style) = true
table_stands room at (Cdl style) = true
table_stands room at (OneEnd end) = true

-- that of every node: then no node leaves a pixel as it is for want of its table
unfoldable pub tables_stand : Room → List Node → Bool
tables_stand m ns = every (λ (n : Node). table_stands (room_length m) n.at n.kind) ns

-- ---- all nodes, one after the other in the order of the list: what comes out of one goes into the next. 'Between nodes, and in the lent slice, it holds code values.'
unfoldable pub run_nodes : Room → List Node → List Float → List Float
run_nodes m [] xs = xs
run_nodes m (n ∷ ns) xs = run_nodes m ns (run_node m n xs)

-- what comes out of a list whose last node is a Range with one end (02, W-202): no component beyond its limit, and none a NaN, whatever went in and whatever overflowed before
unfoldable pub LastEndHolds : Room → List Node → List Float → Type 0
LastEndHolds m ns ys = (before : List Node) (n : Node) (end : RangeEnd) → ns ≡ before ++ (n ∷ []) → n.kind ≡ OneEnd end → EachInside end (number_at m n.at) ys

-- ---- the answer of a call

-- 14: 'pixel slice not a multiple of three'
unfoldable pub not_threes : List Float → Bool
not_threes xs = not (eqb (length xs % 3) 0)

-- 15: 'pixel value NaN or infinite'
unfoldable pub not_finite : List Float → Bool
not_finite xs = ltb (first_not_finite xs) (length xs)

-- what running answers: that the pixels have been run, or why they have not
abbrev pub Ran : Type 0
Ran = Result (Unit {0}) RunFault

-- the refusal number of each
abbrev pub fault_number : RunFault → ℕ
fault_number NoReading = Refusal.no_reading
fault_number NotThrees = Refusal.not_threes
fault_number (NotFinite index) = Refusal.not_finite

-- 0 is accepted
abbrev pub ran_number : Ran → ℕ
ran_number (Ok u) = 0
ran_number (Err f) = fault_number f

-- 'The place .. of 15, the index; .. of 0, 4, 14 and 16 to 19, 0'
abbrev pub fault_place : RunFault → ℕ
fault_place NoReading = 0
fault_place NotThrees = 0
fault_place (NotFinite index) = index

abbrev pub ran_place : Ran → ℕ
ran_place (Ok u) = 0
ran_place (Err f) = fault_place f

-- 'Running: 16, 14, 15 (lowest index)'
unfoldable pub ran_of : ProcessList → Room → List Float → Ran
ran_of list m xs =
    cond (not (is_valid list m)) (Err NoReading)
    (cond (not_threes xs) (Err NotThrees)
    (cond (not_finite xs) (Err (NotFinite (first_not_finite xs)))
    (Ok tt)))

-- the slice afterwards: 'overwritten' by what the nodes make of it; 'Any other refusal changes nothing'
unfoldable pub pixels_of : ProcessList → Room → List Float → List Float
pixels_of list m xs =
    cond (eqb (ran_number (ran_of list m xs)) 0)
    (run_nodes m (nodes_of list) xs)
    xs
