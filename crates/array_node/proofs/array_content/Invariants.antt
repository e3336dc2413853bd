use Prim.Native.Nat.{◌-◌}
use mathlib.Core.Path.{◌≡◌}
use lib.ListN.{length}
use Rattle.room.specs.Room.{lent}
use Rattle.clf.specs.Nodes.{no_array}
use Rattle.node_parts.specs.Held.{HeldAt}
use Rattle.array_node.specs.Code.{holder_of, ArrayStands}
use Rattle.array_node.proofs.array_content.Given as goal

abbrev pub invariant-loop-a : goal.invariant-loop-a
invariant-loop-a l =
    (length l.coefficients ≡ length l.initial.coefficients) × (length l.powers ≡ length l.initial.powers) ×
    HeldAt (holder_of l.table) no_array l.s l.at l.i (ArrayStands l.base (lent l.initial.coefficients l.initial.powers) (lent l.coefficients l.powers) l.found)

abbrev pub decreases-loop-a : goal.decreases-loop-a
decreases-loop-a l = length l.s - l.i
