use mathlib.Core.Path.{◌≡◌}
use mathlib.Core.List.{List}
use lib.Ieee.{Float}
use Rattle.process_list.specs.declared.Node.{Node}
use Rattle.process_list.specs.List.{scale_of}
use Rattle.pixel_run.specs.declared.Prepared.{Prepared}
use Rattle.room.specs.Room.{Room, lent}
use Rattle.pixel_run.specs.Step.{step_pixel}
use Rattle.pixel_run.specs.Each.{each_pixel}
use Rattle.running.specs.Running.{prepared_as, prepared_of, rows_as, rows_of, run_node}
use Rattle.running.proofs.run_one.Goals as goal

as-node : (m : Room) (n : Node) (xs : List Float) {ys : List Float} {p : Prepared} {rows : List (List Float)} {i o : Float}
    → p ≡ prepared_as m n.at n.kind
    → rows ≡ rows_as m p
    → i ≡ scale_of n.input
    → o ≡ scale_of n.output
    → ys ≡ each_pixel (step_pixel p rows i o m) xs
    → ys ≡ run_node m n xs
unfolding run_node prepared_of rows_of
as-node m n xs ep er ei eo h = cc

pub returns : goal.returns
returns c =
    let a = c.args in
    as-node (lent a.coefficients.now a.powers.now) a.node a.pixels.now c.prepared-step.ensures c.rows.ensures c.scale.ensures c.scale-2.ensures c.run_node.ensures.pixels_after
