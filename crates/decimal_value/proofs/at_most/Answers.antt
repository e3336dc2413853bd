use Rattle.decimal_value.specs.Value.{at_most}
use Rattle.decimal_value.proofs.at_most.Goals as goal

-- Two numbers are compared by their f64. Assumes nothing.
pub returns : goal.returns
unfolding at_most
returns c = rw (c.value.ensures, c.value-2.ensures)
