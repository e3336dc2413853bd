use Prim.Native.Nat.{◌-◌}
use mathlib.Core.Path.{◌≡◌}
use mathlib.Core.List.{[]}
use lib.ListN.{length}
use Rattle.room.specs.Room.{lent}
use Rattle.node_parts.specs.Held.{HeldAt}
use Rattle.cdl_node.specs.Code.{inner_holder, InnerStands}
use Rattle.cdl_node.proofs.inner_content.Given as goal

abbrev pub invariant-loop-a : goal.invariant-loop-a
invariant-loop-a l =
    (length l.coefficients ≡ length l.initial.coefficients) × (length l.powers ≡ length l.initial.powers) ×
    HeldAt (inner_holder l.part) [] l.s l.at l.i (InnerStands l.part (lent l.initial.coefficients l.initial.powers) (lent l.coefficients l.powers) l.count)

abbrev pub decreases-loop-a : goal.decreases-loop-a
decreases-loop-a l = length l.s - l.i
