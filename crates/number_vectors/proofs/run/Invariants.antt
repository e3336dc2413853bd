use Rattle.std.proofs.Common.{length, ◌+◌, ◌≤◌}
use Rattle.number_vectors.proofs.run.Given as goal

abbrev pub invariant-loop-end : goal.invariant-loop-end
invariant-loop-end g l = (l.counts.tokens + length l.rest ≤ length l.s) × (l.counts.numbers ≤ l.counts.tokens)

abbrev pub decreases-loop-end : goal.decreases-loop-end
decreases-loop-end g l = length l.rest
