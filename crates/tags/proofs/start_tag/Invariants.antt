use Prim.Native.Nat.{◌-◌}
use lib.ListN.{length}
use Rattle.tags.specs.Rules.{rules_of}
use Rattle.tags.proofs.Ends.{TagInv}
use Rattle.tags.proofs.start_tag.Given as goal

abbrev pub invariant-loop-i : goal.invariant-loop-i
invariant-loop-i l = TagInv (rules_of l.kind) l.s l.at l.attributes l.spaced l.i

abbrev pub decreases-loop-i : goal.decreases-loop-i
decreases-loop-i l = length l.s - l.i
