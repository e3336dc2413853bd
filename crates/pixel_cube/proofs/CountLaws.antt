-- How many corners each method uses, counted over a row of passes, whatever they are: by induction over the passes, and in a pass over its axes. Assumes nothing.
use Rattle.std.specs.Prelude.{◌≡◌, Bool, Float}
use Rattle.std.proofs.Math.Path.{refl}
use Rattle.std.proofs.Common.{◌∙◌, zero-mul, length-append}
use Rattle.std.proofs.Math.Bool.{true, false, cond}
use mathlib.Core.List.{List, [], ◌∷◌, map}
use Prim.Native.Nat.{ℕ, suc, ◌+◌, ◌*◌, ◌^◌}
use native.Mathlib.Omega.{arith}
use Rattle.std.proofs.Math.ListN.{length}
use Rattle.std.specs.Float.Ieee.{le, eq}
use Rattle.process_list.specs.declared.Interpolation.{Interpolation}
use Rattle.process_list.specs.declared.Interpolation.TheVariants.{Trilinear, Tetrahedral}
use Rattle.pixel.specs.F64 as F64
use Rattle.pixel_cube.specs.declared.Axis.{Axis}
use Rattle.pixel_cube.specs.declared.Axis.TheVariants.{Red, Green, Blue}
use Rattle.pixel_cube.specs.declared.Corner.{Corner}
use Rattle.pixel_cube.specs.Cube.{raised, insert_axis, falling, leaving, steps_from, steps_along}
use Rattle.pixel_cube.specs.Corners.{passes, listed_for, used_from, counts, axes_counted, corner_count}

-- ---- a pass takes its corner and one more for each axis that counts, and the passes before use as many for each of these
listed-many : (g : Corner → List Corner) (m : ℕ) → ((c : Corner) → length (g c) ≡ m) → (cs : List Corner) → length (listed_for g cs) ≡ length cs * m
unfolding listed_for
listed-many g m k [] = omega (arith, zero-mul m)
listed-many g m k (c ∷ cs) = length-append (g c) (listed_for g cs) ∙ rw (k c, listed-many g m k cs) (omega arith)

module _ (f : Axis → Float) where
  count_all : List Axis → ℕ
  count_all [] = 0
  count_all (a ∷ rest) = counts (f a) + count_all rest

  insert-counted : (a : Axis) (axes : List Axis) → count_all (insert_axis f a axes) ≡ counts (f a) + count_all axes
  unfolding insert_axis count_all
  insert-counted a [] = refl
  insert-counted a (b ∷ rest) = go (le (f b) (f a)) (insert-counted a rest)
    where
      go : (q : Bool) → count_all (insert_axis f a rest) ≡ counts (f a) + count_all rest
          → count_all (cond q (a ∷ b ∷ rest) (b ∷ insert_axis f a rest)) ≡ counts (f a) + (counts (f b) + count_all rest)
      go true e = refl
      go false e = omega (arith, e)

  falling-counted : (axes : List Axis) → count_all (falling f axes) ≡ count_all axes
  unfolding falling count_all
  falling-counted [] = refl
  falling-counted (a ∷ rest) = insert-counted a (falling f rest) ∙ rw (falling-counted rest) refl

  module _ (l : Corner) where
    steps-counted : (axes : List Axis) (c : Corner) → length (map (λ s. s.to) (steps_from f l c (leaving f axes))) ≡ count_all axes
    unfolding leaving steps_from count_all
    steps-counted [] c = refl
    steps-counted (a ∷ rest) c = go (eq (f a) F64.zero) (λ d. steps-counted rest d)
      where
        go : (q : Bool) → ((d : Corner) → length (map (λ s. s.to) (steps_from f l d (leaving f rest))) ≡ count_all rest)
            → length (map (λ s. s.to) (steps_from f l c (cond q (leaving f rest) (a ∷ leaving f rest)))) ≡ cond q 0 1 + count_all rest
        go true k = omega (arith, k c)
        go false k = omega (arith, k (raised l c a))

    used_count : List (List Axis) → ℕ
    used_count [] = 1
    used_count (axes ∷ before) = suc (count_all axes) * used_count before

    used-many : (ps : List (List Axis)) (c : Corner) → length (used_from f l ps c) ≡ used_count ps
    unfolding used_from used_count steps_along
    used-many [] c = refl
    used-many (axes ∷ before) c =
        listed-many (used_from f l before) (used_count before) (used-many before) (c ∷ map (λ s. s.to) (steps_along f l c axes)) ∙ rw (steps-counted (falling f axes) c, falling-counted axes) refl

    method-many : (interpolation : Interpolation) → used_count (passes interpolation) ≡ corner_count interpolation (axes_counted f)
    unfolding used_count count_all
    method-many Trilinear = go (eq (f Red) F64.zero) (eq (f Green) F64.zero) (eq (f Blue) F64.zero)
      where
        go : (p q r : Bool) → suc (cond p 0 1 + 0) * (suc (cond q 0 1 + 0) * (suc (cond r 0 1 + 0) * 1)) ≡ 2 ^ (cond p 0 1 + (cond q 0 1 + cond r 0 1))
        go true true true = refl
        go true true false = refl
        go true false true = refl
        go true false false = refl
        go false true true = refl
        go false true false = refl
        go false false true = refl
        go false false false = refl
    method-many Tetrahedral = omega arith

    pub corners-many : (c : Corner) (interpolation : Interpolation) → length (used_from f l (passes interpolation) c) ≡ corner_count interpolation (axes_counted f)
    corners-many c interpolation = used-many (passes interpolation) c ∙ method-many interpolation
