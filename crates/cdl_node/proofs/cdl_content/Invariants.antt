use Prim.Native.Nat.{◌-◌}
use mathlib.Core.Path.{◌≡◌}
use lib.ListN.{length}
use Rattle.room.specs.Room.{lent}
use Rattle.clf.specs.Nodes.{cdl_holder, no_cdl}
use Rattle.node_parts.specs.Held.{HeldAt}
use Rattle.cdl_node.specs.Code.{CdlStands}
use Rattle.cdl_node.proofs.cdl_content.Given as goal

abbrev pub invariant-loop-a : goal.invariant-loop-a
invariant-loop-a l =
    (length l.coefficients ≡ length l.initial.coefficients) × (length l.powers ≡ length l.initial.powers) ×
    HeldAt cdl_holder no_cdl l.s l.at l.i (CdlStands (lent l.coefficients l.powers) l.sop l.sat)

abbrev pub decreases-loop-a : goal.decreases-loop-a
decreases-loop-a l = length l.s - l.i
