use Prim.Native.Nat.{◌-◌}
use mathlib.Core.Path.{◌≡◌}
use lib.ListN.{length}
use Rattle.room.specs.Room.{lent}
use Rattle.clf.specs.Nodes.{range_holder, no_values}
use Rattle.node_parts.specs.Held.{HeldAt}
use Rattle.range_node.specs.Code.{RangeStands}
use Rattle.range_node.proofs.range_content.Given as goal

abbrev pub invariant-loop-a : goal.invariant-loop-a
invariant-loop-a l =
    (length l.coefficients ≡ length l.initial.coefficients) × (length l.powers ≡ length l.initial.powers) ×
    HeldAt (range_holder l.allowed) no_values l.s l.at l.i (RangeStands (lent l.coefficients l.powers) l.found)

abbrev pub decreases-loop-a : goal.decreases-loop-a
decreases-loop-a l = length l.s - l.i
