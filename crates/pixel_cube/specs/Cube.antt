-- What a pixel goes through in a LUT3D (document 02, W-201). Definitions only.
-- 'Axes get fraction, position and index as LUT1D does': `index` and `remainder` of `pixel_lut/Lut1d` serve both.
use Rattle.std.specs.Prelude.{cond, List, [], ◌∷◌, map, ℕ, ◌+◌, Float}
use Rattle.std.specs.Float.Ieee.{le, eq}
use Rattle.process_list.specs.declared.Interpolation.{Interpolation}
use Rattle.process_list.specs.declared.Interpolation.TheVariants.{Trilinear, Tetrahedral}
use Rattle.pixel.specs.declared.CodeValue.{CodeValue}
use Rattle.pixel.specs.declared.Fraction.{Fraction}
use Rattle.pixel.specs.declared.Fractions.{Fractions}
use Rattle.pixel.specs.F64.{◌⊕◌, ◌⊖◌, ◌⊗◌}
use Rattle.pixel.specs.F64 as F64
use Rattle.pixel.specs.Hold.{hold}
use Rattle.pixel_lut.specs.Lut1d.{index, remainder, smaller, larger, looked_up}
use Rattle.pixel_cube.specs.declared.Axis.{Axis}
use Rattle.pixel_cube.specs.declared.Axis.TheVariants.{Red, Green, Blue}
use Rattle.pixel_cube.specs.declared.Corner.{Corner}

-- ---- axes and corners

-- a pixel's fraction on an axis
abbrev pub fraction_on : Fractions → Axis → Fraction
fraction_on x Red = x.r
fraction_on x Green = x.g
fraction_on x Blue = x.b

-- the remainder f on an axis of n entries
unfoldable pub remainder_on : ℕ → Fractions → Axis → Float
remainder_on n x a = remainder n (fraction_on x a)

-- a corner of the cell in which a pixel lies, by its index on each axis. Behind the last index there is no entry: only a corner that is used is one of the table (Corners: `inside`)
abbrev pub corner : ℕ → ℕ → ℕ → Corner
corner i j k = record { red = i; green = j; blue = k }

-- 'the low corner'
unfoldable pub low : ℕ → Fractions → Corner
low n x = corner (index n x.r) (index n x.g) (index n x.b)

-- from a corner one step along an axis: the index there is one more than that of the low corner l
abbrev pub raised : Corner → Corner → Axis → Corner
raised l c Red = corner (l.red + 1) c.green c.blue
raised l c Green = corner c.red (l.green + 1) c.blue
raised l c Blue = corner c.red c.green (l.blue + 1)

-- ---- 'Trilinear works along blue, then green, then red, each step being LUT1D's step with its hold'
-- `entry` is one component of the table

-- 'along blue': between the entries at i on red and j on green
unfoldable pub along_blue : (Corner → Float) → ℕ → Fractions → ℕ → ℕ → Float
along_blue entry n x i j = (looked_up (λ k. entry (corner i j k)) n x.b).0

-- 'then green': between what that gave
unfoldable pub along_green : (Corner → Float) → ℕ → Fractions → ℕ → Float
along_green entry n x i = (looked_up (λ j. along_blue entry n x i j) n x.g).0

-- 'then red'
unfoldable pub trilinear : (Corner → Float) → ℕ → Fractions → CodeValue
trilinear entry n x = looked_up (λ i. along_green entry n x i) n x.r

-- ---- 'Tetrahedral takes the axes by falling remainder f, ties red, green, blue, and steps along them from the low corner'

-- axes by falling f; of axes with equal f the one that stands first stays first
unfoldable pub insert_axis : (Axis → Float) → Axis → List Axis → List Axis
insert_axis f a [] = a ∷ []
insert_axis f a (b ∷ bs) = cond (le (f b) (f a)) (a ∷ b ∷ bs) (b ∷ insert_axis f a bs)

-- 'the axes by falling remainder f': each is put among those behind it
unfoldable pub falling : (Axis → Float) → List Axis → List Axis
falling f [] = []
falling f (a ∷ rest) = insert_axis f a (falling f rest)

-- 'A term whose f is 0 is left out with its corner'
unfoldable pub leaving : (Axis → Float) → List Axis → List Axis
leaving f [] = []
leaving f (a ∷ rest) = cond (eq (f a) F64.zero) (leaving f rest) (a ∷ leaving f rest)

-- a step along an axis: its f, and the corner to which it leads
pub record Step : Type 0 where
  pub part : Float
  pub to : Corner

-- the steps along these axes, from the corner c on; l is the low corner
unfoldable pub steps_from : (Axis → Float) → Corner → Corner → List Axis → List Step
steps_from f l c [] = []
steps_from f l c (a ∷ rest) = record { part = f a; to = raised l c a } ∷ steps_from f l (raised l c a) rest

-- 'c0 + f1·(c1 − c0) + f2·(c2 − c1) + f3·(c3 − c2), left to right': the sum so far, the entry of the corner before, and the steps to come
unfoldable pub summed : (Corner → Float) → Float → Float → List Step → Float
summed entry sum before [] = sum
summed entry sum before (s ∷ ss) = summed entry (sum ⊕ s.part ⊗ (entry s.to ⊖ before)) (entry s.to) ss

-- the smallest and the largest of values, of which e is the first
unfoldable pub smallest : Float → List Float → Float
smallest e [] = e
smallest e (e' ∷ es) = smallest (smaller e e') es

unfoldable pub largest : Float → List Float → Float
largest e [] = e
largest e (e' ∷ es) = largest (larger e e') es

-- 'The sum is held between the smallest and largest of the corners used'
unfoldable pub summed_and_held : (Corner → Float) → Corner → List Step → Float
summed_and_held entry c steps =
    let others : List Float = map (λ s. entry s.to) steps in
    hold (summed entry (entry c) (entry c) steps) (smallest (entry c) others) (largest (entry c) others)

-- the steps of a walk from c along these axes: by falling f, those left out whose f is 0
unfoldable pub steps_along : (Axis → Float) → Corner → Corner → List Axis → List Step
steps_along f l c axes = steps_from f l c (leaving f (falling f axes))

-- the axes as ties ask for them: 'red, green, blue'
abbrev pub all_axes : List Axis
all_axes = Red ∷ Green ∷ Blue ∷ []

-- all of it: from the low corner along all axes, summed and held
unfoldable pub tetrahedral : (Corner → Float) → ℕ → Fractions → CodeValue
tetrahedral entry n x = record { 0 = summed_and_held entry (low n x) (steps_along (remainder_on n x) (low n x) (low n x) all_axes) }

-- ---- either method, on one component
unfoldable pub interpolated_by : Interpolation → (Corner → Float) → ℕ → Fractions → CodeValue
interpolated_by Trilinear = trilinear
interpolated_by Tetrahedral = tetrahedral
