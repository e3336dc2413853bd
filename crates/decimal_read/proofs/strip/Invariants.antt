use Rattle.decimal_read.proofs.Loops.{Stripping}
use Rattle.decimal_read.proofs.strip.Given as goal

abbrev pub invariant-loop-coefficient : goal.invariant-loop-coefficient
invariant-loop-coefficient l = Stripping l.value l.coefficient l.zeros

abbrev pub decreases-loop-coefficient : goal.decreases-loop-coefficient
decreases-loop-coefficient l = l.coefficient
