use Rattle.std.proofs.Common.{◌≡◌, length, drop}
use Rattle.room.specs.Room.{lent}
use Rattle.running.specs.Running.{run_nodes}
use Rattle.running.proofs.run_all.Given as goal

abbrev pub invariant-loop-node : goal.invariant-loop-node
invariant-loop-node l =
    (length l.pixels ≡ length l.initial.pixels)
    × (run_nodes (lent l.coefficients l.powers) (drop l.node-index l.node-items) l.pixels ≡ run_nodes (lent l.coefficients l.powers) l.node-items l.initial.pixels)
