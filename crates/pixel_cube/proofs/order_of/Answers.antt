use mathlib.Core.Path.{◌≡◌, sym, ◌∙◌}
use mathlib.Core.Bool.{Bool, cond}
use mathlib.Core.List.{[], ◌∷◌}
use lib.Ieee.{Float, le}
use Rattle.pixel_cube.specs.declared.Axis.{Axis}
use Rattle.pixel_cube.specs.declared.Axis.TheVariants.{Red, Green, Blue}
use Rattle.pixel_cube.specs.Cube.{insert_axis, falling, all_axes}
use Rattle.pixel_cube.specs.Ways.{part_on}
use Rattle.pixel_cube.proofs.order_of.Goals as goal

-- green and blue in their order, and then red
green-blue : (f : Axis → Float) (q : Bool) → le (f Blue) (f Green) ≡ q → falling f all_axes ≡ insert_axis f Red (cond q (Green ∷ Blue ∷ []) (Blue ∷ Green ∷ []))
unfolding falling insert_axis
green-blue f q e = rw e

pub returns-then-blue-green : goal.returns-then-blue-green
returns-then-blue-green c =
    c.with_red.ensures ∙ sym (green-blue (part_on c.args.cell) _ (rw (c.part_on-blue.ensures, c.part_on-green.ensures) at c.if-blue-green.true))

pub returns : goal.returns
returns c =
    c.with_red-2.ensures ∙ sym (green-blue (part_on c.args.cell) _ (rw (c.part_on-blue.ensures, c.part_on-green.ensures) at c.if-blue-green.false))
