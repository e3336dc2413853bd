-- The code's ways are the two methods, and its corners stay in the table. Assumes nothing.
use Rattle.std.specs.Prelude.{◌≡◌, Bool, cond, Float}
use Rattle.std.proofs.Math.Path.{refl, ap, fun_ext}
use Rattle.std.proofs.Common.{sym, ◌∙◌, arith}
use Rattle.std.proofs.Math.Bool.{true, false}
use mathlib.Core.List.{List, [], ◌∷◌, map}
use Prim.Native.Nat.{ℕ, ◌+◌, ◌≤◌, ◌<◌}
use Rattle.std.specs.Float.Ieee.{eq}
use Rattle.process_list.specs.declared.Interpolation.{Interpolation}
use Rattle.process_list.specs.declared.Interpolation.TheVariants.{Trilinear, Tetrahedral}
use Rattle.process_list.specs.List.{most_points}
use Rattle.pixel.specs.declared.Fraction.{Fraction}
use Rattle.pixel.specs.declared.Fractions.{Fractions}
use Rattle.pixel.specs.F64 as F64
use Rattle.pixel.specs.Hold.{hold}
use Rattle.pixel_lut.specs.Lut1d.{on_axis, looked_up}
use Rattle.pixel_lut.specs.Lut1dLaws.{on-axis, index_below, looked-up-stepped}
use Rattle.pixel_cube.specs.declared.Axis.{Axis}
use Rattle.pixel_cube.specs.declared.Axis.TheVariants.{Red, Green, Blue}
use Rattle.pixel_cube.specs.declared.Corner.{Corner}
use Rattle.pixel_cube.specs.declared.Cell.{Cell}
use Rattle.pixel_cube.specs.declared.Sum.{Sum}
use Rattle.pixel_cube.specs.Cube.{remainder_on, low, raised, falling, leaving, Step, steps_from, steps_along, summed, smallest, largest, summed_and_held, all_axes, interpolated_by}
use Rattle.pixel_cube.specs.Cube as Cube
use Rattle.pixel_cube.specs.Corners.{Inside, Every}
use Rattle.pixel_cube.proofs.CornersLaws.{next-on, index_on, raised-inside}
use Rattle.pixel_cube.specs.Ways.{cell_of, part_on, low_of, PlaceInside, CellInside, along, leg_from, legs_from, legs_in, added, added_all, held_sum, walked, walked_all, way_by}
use Rattle.pixel_cube.specs.Ways as Ways

-- ---- a walk over all axes, whose legs with part 0 lead nowhere, is the walk that leaves these out
module _ (entry : Corner → Float) (cell : Cell) where
  steps_on : Corner → List Axis → List Step
  steps_on c axes = steps_from (part_on cell) (low_of cell) c (leaving (part_on cell) axes)

  abbrev Sums : Sum → Corner → List Axis → Type 0
  Sums s c axes =
      held_sum (added_all entry s (legs_from cell c axes))
      ≡ hold (summed entry s.sum s.before (steps_on c axes))
      (smallest s.smallest (map (λ t. entry t.to) (steps_on c axes)))
      (largest s.largest (map (λ t. entry t.to) (steps_on c axes)))

  sums-more : (a : Axis) (rest : List Axis) (s : Sum) (c : Corner) (q : Bool) → eq (part_on cell a) F64.zero ≡ q → ((s : Sum) (c : Corner) → Sums s c rest) → Sums s c (a ∷ rest)
  unfolding steps_on leaving steps_from legs_from leg_from added_all added summed smallest largest
  sums-more a rest s c true e k = simp e (k s c)
  sums-more a rest s c false e k = simp e (k _ (raised (low_of cell) c a))

  sums : (axes : List Axis) (s : Sum) (c : Corner) → Sums s c axes
  unfolding steps_on leaving steps_from legs_from added_all summed smallest largest
  sums [] s c = refl
  sums (a ∷ rest) s c = sums-more a rest s c (eq (part_on cell a) F64.zero) refl (sums rest)

  walked-held : (walked_all entry cell).0 ≡ summed_and_held entry (low_of cell) (steps_along (part_on cell) (low_of cell) (low_of cell) all_axes)
  unfolding walked_all walked legs_in summed_and_held steps_along steps_on
  walked-held = sums (falling (part_on cell) all_axes) _ (low_of cell)

-- ---- a walk in a cell that lies in a table stays there
module _ (n : ℕ) (cell : Cell) (h : CellInside n cell) where
  pub low-inside : Inside n (low_of cell)
  low-inside = record { red = h.red.index; green = h.green.index; blue = h.blue.index }

  next_low : (a : Axis) → eq (part_on cell a) F64.zero ≡ false → index_on (low_of cell) a + 1 < n
  next_low Red = h.red.next
  next_low Green = h.green.next
  next_low Blue = h.blue.next

  leg-inside : (c : Corner) (a : Axis) → Inside n c → Inside n (leg_from cell c a).to
  unfolding leg_from
  leg-inside c a k = go (eq (part_on cell a) F64.zero) refl
    where
      go : (q : Bool) → eq (part_on cell a) F64.zero ≡ q → Inside n (cond q c (raised (low_of cell) c a))
      go true e = k
      go false e = raised-inside n (low_of cell) c a (next_low a e) k

  pub legs-inside : (axes : List Axis) (c : Corner) → Inside n c → Every (Inside n) (map (λ l. l.to) (legs_from cell c axes))
  unfolding legs_from
  legs-inside [] c k = tt
  legs-inside (a ∷ rest) c k = (leg-inside c a k, legs-inside rest (leg_from cell c a).to (leg-inside c a k))

-- ---- the cell of a pixel
module _ (n : ℕ) (x : Fractions) (some : 2 ≤ n) (most : n ≤ most_points) where
  place_inside : (y : Fraction) → PlaceInside n (on_axis n y)
  place_inside y = rw (on-axis n y some (omega arith)) (record { index = index_below n y (omega arith); next = next-on n y some (omega arith) })

  pub cell-inside : CellInside n (cell_of n x)
  unfolding cell_of
  cell-inside = record { red = place_inside x.r; green = place_inside x.g; blue = place_inside x.b }

  low-is : low_of (cell_of n x) ≡ low n x
  unfolding cell_of low
  low-is = rw (on-axis n x.r some (omega arith), on-axis n x.g some (omega arith), on-axis n x.b some (omega arith)) refl

  part-is : (a : Axis) → part_on (cell_of n x) a ≡ remainder_on n x a
  unfolding cell_of remainder_on
  part-is Red = rw (on-axis n x.r some (omega arith)) refl
  part-is Green = rw (on-axis n x.g some (omega arith)) refl
  part-is Blue = rw (on-axis n x.b some (omega arith)) refl

  along-is : (e : ℕ → Float) (y : Fraction) → along e (on_axis n y) ≡ (looked_up e n y).0
  along-is e y = rw (on-axis n y some (omega arith)) (sym (looked-up-stepped e n y some (omega arith)))

  module _ (entry : Corner → Float) where
    green-is : (i : ℕ) → Ways.green_way entry (on_axis n x.g) (on_axis n x.b) i ≡ Cube.along_green entry n x i
    unfolding Ways.green_way Ways.blue_way Cube.along_green Cube.along_blue
    green-is i = along-is _ x.g ∙ ap (λ (h : ℕ → Float). (looked_up h n x.g).0) (fun_ext (λ j. along-is _ x.b))

    pub way-is : (interpolation : Interpolation) → (way_by interpolation entry (cell_of n x)).0 ≡ (interpolated_by interpolation entry n x).0
    unfolding way_by interpolated_by cell_of Ways.red_way Cube.trilinear Cube.tetrahedral
    way-is Trilinear = along-is _ x.r ∙ ap (λ (h : ℕ → Float). (looked_up h n x.r).0) (fun_ext green-is)
    way-is Tetrahedral = walked-held entry (cell_of n x) ∙ rw (low-is, fun_ext part-is) refl
