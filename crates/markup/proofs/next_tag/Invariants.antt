use Prim.Native.Nat.{◌-◌}
use lib.ListN.{length}
use Rattle.markup.specs.Next.{Passed}
use Rattle.markup.proofs.next_tag.Given as goal

abbrev pub invariant-loop-e : goal.invariant-loop-e
invariant-loop-e l = Passed l.s l.at l.i

abbrev pub decreases-loop-e : goal.decreases-loop-e
decreases-loop-e l = length l.s - l.i
