-- The definitions answer each question of W-201's table. Assumes nothing.
use mathlib.Core.Path.{◌≡◌, refl, sym, ◌∙◌}
use mathlib.Core.Bool.{false}
use mathlib.Core.List.{List, [], ◌∷◌, map}
use Prim.Native.Nat.{ℕ}
use lib.IntN.{ℤ, pos, negsuc}
use lib.Ieee.{Float, fin}
use Rattle.valid.specs.Valid.{cube_right}
use Rattle.pixel_cube.specs.Cube.{remainder_on, low, along_blue, along_green, trilinear, insert_axis, falling, leaving, steps_from, summed, smallest, largest, summed_and_held, steps_along}
use Rattle.pixel_cube.specs.Cube.{tetrahedral, interpolated_by}
use Rattle.pixel_cube.specs.Table.{place_of, entry_at, cube_in, interpolated_all, lut3d_pixel}
use Rattle.examples.specs.Starred.{Outcome, slice, grey_pixel}
use Rattle.examples.specs.Cubes.{questions, answers, outcome}
use Rattle.examples.proofs.Runs.{runs}
use Rattle.examples.proofs.Readings.{reads}

-- the answers worked out, each value m·2^e: both sides compute to these
abbrev plain : ℕ → ℤ → Float
plain m e = fin false m e

worked : List Outcome
worked =
    slice 0 (plain 3 (pos 2) ∷ plain 13 (pos 0) ∷ plain 7 (pos 1) ∷ [])
    ∷ slice 0 (plain 3 (pos 0) ∷ plain 1 (pos 2) ∷ plain 5 (pos 0) ∷ [])
    ∷ slice 0 (plain 21 (pos 0) ∷ plain 11 (pos 1) ∷ plain 23 (pos 0) ∷ [])
    ∷ slice 0 (plain 15 (negsuc 0) ∷ plain 17 (negsuc 0) ∷ plain 19 (negsuc 0) ∷ [])
    ∷ slice 0 (grey_pixel (plain 1 (pos 4)))
    ∷ slice 0 (grey_pixel (plain 1 (negsuc 2)))
    ∷ slice 0 (grey_pixel (plain 1 (negsuc 0)))
    ∷ slice 0 (grey_pixel (plain 1 (negsuc 1)))
    ∷ slice 0 (grey_pixel (plain 6980579422424269 (negsuc 52)))
    ∷ slice 0 (grey_pixel (plain 2476979795053773 (negsuc 50)))
    ∷ slice 0 (grey_pixel (plain 8106479329266893 (negsuc 53)))
    ∷ slice 0 (grey_pixel (plain 3602879701896397 (negsuc 51)))
    ∷ slice 0 (grey_pixel (plain 5 (negsuc 2)))
    ∷ slice 0 (grey_pixel (plain 3602879701896397 (negsuc 54)))
    ∷ slice 0 (grey_pixel (plain 1 (negsuc 3)))
    ∷ slice 0 (grey_pixel (plain 1 (negsuc 1)))
    ∷ []

defined : map outcome questions ≡ worked
unfolding questions worked runs reads cube_right
    remainder_on low along_blue along_green trilinear insert_axis falling leaving steps_from summed smallest largest summed_and_held steps_along tetrahedral interpolated_by
    place_of entry_at cube_in interpolated_all lut3d_pixel
defined = refl

said : answers ≡ worked
unfolding answers worked runs
said = refl

pub cubes : map outcome questions ≡ answers
cubes = defined ∙ sym said
