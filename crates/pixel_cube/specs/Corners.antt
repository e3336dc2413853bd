-- What is proved of both methods (W-201: 'Both stay between the corners used and give the very entry where every f is 0, proved once over the method'). Definitions only; a method is a
-- parameter of them. The formulas are those of Cube; here stands which corners a method uses, and what holds of its value and of these corners.
use Rattle.std.specs.Prelude.{◌≡◌, true, cond, List, [], ◌∷◌, ◌++◌, map, ℕ, ◌+◌, ◌^◌, ◌<◌, length, Float}
use Rattle.std.specs.Float.Ieee.{eq}
use Rattle.process_list.specs.declared.Interpolation.{Interpolation}
use Rattle.process_list.specs.declared.Interpolation.TheVariants.{Trilinear, Tetrahedral}
use Rattle.room.specs.Room.{Room, room_length}
use Rattle.pixel.specs.declared.Pixel.{Pixel}
use Rattle.pixel.specs.declared.Fractions.{Fractions}
use Rattle.pixel.specs.F64 as F64
use Rattle.pixel.specs.Bounds.{Between}
use Rattle.pixel.specs.Scale.{to_fractions}
use Rattle.pixel_cube.specs.declared.Axis.{Axis}
use Rattle.pixel_cube.specs.declared.Axis.TheVariants.{Red, Green, Blue}
use Rattle.pixel_cube.specs.declared.Corner.{Corner}
use Rattle.pixel_cube.specs.Cube.{all_axes, low, remainder_on, steps_along, smallest, largest, interpolated_by}
use Rattle.pixel_cube.specs.Table.{entry_at, cube_in}

-- the corners used are counted by passes, each along some axes; the last pass stands first. 'Trilinear works along blue, then green, then red', tetrahedral along all three at once.
-- `proofs/CornersLaws` proves that each method's formula is that of its passes.
abbrev pub passes : Interpolation → List (List Axis)
passes Trilinear = (Red ∷ []) ∷ (Green ∷ []) ∷ (Blue ∷ []) ∷ []
passes Tetrahedral = all_axes ∷ []

-- the corners that are listed for each of these
unfoldable pub listed_for : (Corner → List Corner) → List Corner → List Corner
listed_for g [] = []
listed_for g (c ∷ cs) = g c ++ listed_for g cs

-- 'the corners used' from the corner c on: the last pass takes c and the corners to which its steps lead; each of these is made by the passes before. There is no step where f is 0: of tetrahedral
-- 'a term whose f is 0 is left out with its corner', and a trilinear step is LUT1D's, which takes 'entry i if .. f = 0'
unfoldable pub used_from : (Axis → Float) → Corner → List (List Axis) → Corner → List Corner
used_from f l [] c = c ∷ []
used_from f l (axes ∷ before) c = listed_for (used_from f l before) (c ∷ map (λ s. s.to) (steps_along f l c axes))

-- those of a method on a pixel, from its low corner on
unfoldable pub corners_used : Interpolation → ℕ → Fractions → List Corner
corners_used interpolation n x = used_from (remainder_on n x) (low n x) (passes interpolation) (low n x)

-- ---- how many corners that are: an axis counts if its f is not 0
abbrev pub counts : Float → ℕ
counts f = cond (eq f F64.zero) 0 1

-- how many axes count
abbrev pub axes_counted : (Axis → Float) → ℕ
axes_counted f = counts (f Red) + (counts (f Green) + counts (f Blue))

-- trilinear: twice as many with each axis that counts. Tetrahedral: c0, and one for each term that is not left out
abbrev pub corner_count : Interpolation → ℕ → ℕ
corner_count Trilinear axes = 2 ^ axes
corner_count Tetrahedral axes = axes + 1

-- ---- where they lie

-- an entry of the table
pub record Inside (n : ℕ) (c : Corner) : Type 0 where
  pub red : c.red < n
  pub green : c.green < n
  pub blue : c.blue < n

-- each of these corners
abbrev pub Every : (Corner → Type 0) → List Corner → Type 0
Every P [] = Unit {0}
Every P (c ∷ cs) = P c × Every P cs

-- y is what a method may give on one component, whatever the pixel is, NaN and infinities included:
-- `between`: 'stay between the corners used'
-- `exact`: 'give the very entry where every f is 0'
-- `only`: no other corner counts. Of every table that has the same entries at the corners used the method makes the same value
-- `many`: how many corners are used
-- `inside`: each of them is an entry of the table
pub record KeepsCorners (interpolation : Interpolation) (entry : Corner → Float) (n : ℕ) (x : Fractions) (y : Float) : Type 0 where
  pub between : Between (smallest (entry (low n x)) (map entry (corners_used interpolation n x))) (largest (entry (low n x)) (map entry (corners_used interpolation n x))) y
  pub exact : ((a : Axis) → eq (remainder_on n x a) F64.zero ≡ true) → y ≡ entry (low n x)
  pub only : (other : Corner → Float) → Every (λ c. other c ≡ entry c) (corners_used interpolation n x) → (interpolated_by interpolation other n x).0 ≡ y
  pub many : length (corners_used interpolation n x) ≡ corner_count interpolation (axes_counted (remainder_on n x))
  pub inside : Every (Inside n) (corners_used interpolation n x)

-- and on each component of a pixel that a table of the room gives
pub record PixelKeeps (m : Room) (at n : ℕ) (interpolation : Interpolation) (x : Fractions) (y : Pixel) : Type 0 where
  pub red : KeepsCorners interpolation (entry_at m at n 0) n x y.r
  pub green : KeepsCorners interpolation (entry_at m at n 1) n x y.g
  pub blue : KeepsCorners interpolation (entry_at m at n 2) n x y.b

-- what a LUT3D's step promises of the pixel y that it makes of x, wherever the room holds its table
abbrev pub LutKeeps : Room → ℕ → ℕ → Interpolation → Float → Pixel → Pixel → Type 0
LutKeeps m at n interpolation inScale x y = cube_in (room_length m) at n ≡ true → PixelKeeps m at n interpolation (to_fractions inScale x) y
