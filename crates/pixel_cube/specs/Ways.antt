-- The two methods as the code takes them: by a pixel's place on each axis, which is worked out once, and over the axes in their order. `proofs/WaysLaws` says that they are those of Cube. Definitions only.
use Rattle.std.specs.Prelude.{◌≡◌, false, cond, List, [], ◌∷◌, ℕ, ◌+◌, ◌<◌, Float}
use Rattle.std.specs.Float.Ieee.{eq}
use Rattle.process_list.specs.declared.Interpolation.{Interpolation}
use Rattle.process_list.specs.declared.Interpolation.TheVariants.{Trilinear, Tetrahedral}
use Rattle.process_list.specs.List.{most_points}
use Rattle.pixel.specs.declared.CodeValue.{CodeValue}
use Rattle.pixel.specs.declared.Pixel.{Pixel}
use Rattle.pixel.specs.declared.Fractions.{Fractions}
use Rattle.pixel.specs.F64.{◌⊕◌, ◌⊖◌, ◌⊗◌}
use Rattle.pixel.specs.F64 as F64
use Rattle.pixel.specs.Hold.{hold}
use Rattle.pixel_lut.specs.declared.AxisPlace.{AxisPlace}
use Rattle.pixel_lut.specs.Lut1d.{on_axis, smaller, larger}
use Rattle.pixel_lut.specs.Lut1d as Lut1d
use Rattle.pixel_cube.specs.declared.Axis.{Axis}
use Rattle.pixel_cube.specs.declared.Axis.TheVariants.{Red, Green, Blue}
use Rattle.pixel_cube.specs.declared.Corner.{Corner}
use Rattle.pixel_cube.specs.declared.Cell.{Cell}
use Rattle.pixel_cube.specs.declared.Order.{Order}
use Rattle.pixel_cube.specs.declared.Leg.{Leg}
use Rattle.pixel_cube.specs.declared.Walk.{Walk}
use Rattle.pixel_cube.specs.declared.Sum.{Sum}
use Rattle.pixel_cube.specs.Cube.{corner, raised, falling, all_axes}
use Rattle.pixel_cube.specs.Corners.{Inside}

-- ---- a pixel's places on the three axes
unfoldable pub cell_of : ℕ → Fractions → Cell
cell_of n x = record { red = on_axis n x.r; green = on_axis n x.g; blue = on_axis n x.b }

abbrev pub part_on : Cell → Axis → Float
part_on cell Red = cell.red.part
part_on cell Green = cell.green.part
part_on cell Blue = cell.blue.part

abbrev pub low_of : Cell → Corner
low_of cell = corner cell.red.index cell.green.index cell.blue.index

-- ---- what the code reads lies in a table of n entries on each axis

-- at a place of an axis: the entry at its index, and the next one where the part is not 0
pub record PlaceInside (n : ℕ) (p : AxisPlace) : Type 0 where
  pub index : p.index < n
  pub next : eq p.part F64.zero ≡ false → p.index + 1 < n

pub record CellInside (n : ℕ) (cell : Cell) : Type 0 where
  pub red : PlaceInside n cell.red
  pub green : PlaceInside n cell.green
  pub blue : PlaceInside n cell.blue

-- the corners of a walk
pub record WalkInside (n : ℕ) (w : Walk) : Type 0 where
  pub low : Inside n w.low
  pub first : Inside n w.first.to
  pub second : Inside n w.second.to
  pub third : Inside n w.third.to

-- indices so small that one more can be counted
pub record FewIn (cell : Cell) : Type 0 where
  pub red : cell.red.index < most_points
  pub green : cell.green.index < most_points
  pub blue : cell.blue.index < most_points

-- ---- trilinear: LUT1D's step from the entry at a place of an axis
abbrev pub along : (ℕ → Float) → AxisPlace → Float
along e p = Lut1d.stepped (e p.index) (e (p.index + 1)) p.part

-- what is answered at these places, as `post` says it, is e there; of the next one it need hold only where it is asked
abbrev pub Gives : (ℕ → Float → Type 0) → AxisPlace → (ℕ → Float) → Type 0
Gives post p e = ((y : Float) → post p.index y → y ≡ e p.index) × (eq p.part F64.zero ≡ false → (y : Float) → post (p.index + 1) y → y ≡ e (p.index + 1))

unfoldable pub blue_way : (Corner → Float) → AxisPlace → ℕ → ℕ → Float
blue_way entry blue i j = along (λ k. entry (corner i j k)) blue

unfoldable pub green_way : (Corner → Float) → AxisPlace → AxisPlace → ℕ → Float
green_way entry green blue i = along (λ j. blue_way entry blue i j) green

unfoldable pub red_way : (Corner → Float) → Cell → CodeValue
red_way entry cell = record { 0 = along (λ i. green_way entry cell.green cell.blue i) cell.red }

-- ---- tetrahedral
abbrev pub listed : Order → List Axis
listed o = o.first ∷ o.second ∷ o.third ∷ []

-- from the corner c along an axis; where the part there is 0, it stays at c
unfoldable pub leg_from : Cell → Corner → Axis → Leg
leg_from cell c a = record { part = part_on cell a; to = cond (eq (part_on cell a) F64.zero) c (raised (low_of cell) c a) }

unfoldable pub legs_from : Cell → Corner → List Axis → List Leg
legs_from cell c [] = []
legs_from cell c (a ∷ rest) = leg_from cell c a ∷ legs_from cell (leg_from cell c a).to rest

abbrev pub legs_of : Walk → List Leg
legs_of w = w.first ∷ w.second ∷ w.third ∷ []

-- the walk from the low corner along all axes, by falling part
unfoldable pub legs_in : Cell → List Leg
legs_in cell = legs_from cell (low_of cell) (falling (part_on cell) all_axes)

-- such a walk stays in every table in which its cell lies
pub record WalkIn (cell : Cell) (w : Walk) : Type 0 where
  pub low : w.low ≡ low_of cell
  pub legs : legs_of w ≡ legs_in cell
  pub inside : (n : ℕ) → CellInside n cell → WalkInside n w

-- 'A term whose f is 0 is left out with its corner'
unfoldable pub added : (Corner → Float) → Sum → Leg → Sum
added entry s l =
    let e : Float = entry l.to in
    cond (eq l.part F64.zero) s
    (record { sum = s.sum ⊕ l.part ⊗ (e ⊖ s.before); before = e; smallest = smaller s.smallest e; largest = larger s.largest e })

unfoldable pub added_all : (Corner → Float) → Sum → List Leg → Sum
added_all entry s [] = s
added_all entry s (l ∷ ls) = added_all entry (added entry s l) ls

-- before the first step: the entry of the corner is all there is
abbrev pub start_at : Float → Sum
start_at e = record { sum = e; before = e; smallest = e; largest = e }

-- 'held between the smallest and largest of the corners used'
abbrev pub held_sum : Sum → Float
held_sum s = hold s.sum s.smallest s.largest

unfoldable pub walked : (Corner → Float) → Corner → List Leg → CodeValue
walked entry c ls = record { 0 = held_sum (added_all entry (start_at (entry c)) ls) }

unfoldable pub walked_all : (Corner → Float) → Cell → CodeValue
walked_all entry cell = walked entry (low_of cell) (legs_in cell)

-- ---- either method, and each component by itself
unfoldable pub way_by : Interpolation → (Corner → Float) → Cell → CodeValue
way_by Trilinear = red_way
way_by Tetrahedral = walked_all

abbrev pub each_of : (ℕ → Corner → Float) → ((Corner → Float) → CodeValue) → Pixel
each_of entry way = record { r = (way (entry 0)).0; g = (way (entry 1)).0; b = (way (entry 2)).0 }

-- a pixel of a value for each component, and what is answered on each, as `post` says it, is that value
abbrev pub of_each : (ℕ → CodeValue) → Pixel
of_each f = record { r = (f 0).0; g = (f 1).0; b = (f 2).0 }

abbrev pub GivesEach : (ℕ → CodeValue → Type 0) → (ℕ → CodeValue) → Type 0
GivesEach post f = (k : ℕ) (y : CodeValue) → k < 3 → post k y → y ≡ f k
