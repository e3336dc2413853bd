use Rattle.tags.proofs.Dims.{DigitsInv}
use Rattle.tags.proofs.digits_of.Given as goal

abbrev pub invariant-loop-i : goal.invariant-loop-i
invariant-loop-i l = DigitsInv l.text l.value l.i
