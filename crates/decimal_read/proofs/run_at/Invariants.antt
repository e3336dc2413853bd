use Rattle.decimal_read.proofs.Loops.{Left}
use lib.ListN.{length}
use Rattle.decimal_read.proofs.run_at.Given as goal

abbrev pub invariant-loop-b : goal.invariant-loop-b
invariant-loop-b l = Left l.t l.at l.initial.held l.held l.rest

abbrev pub decreases-loop-b : goal.decreases-loop-b
decreases-loop-b l = length l.rest
