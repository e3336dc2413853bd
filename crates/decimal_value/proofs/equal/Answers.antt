use Rattle.decimal_value.specs.Value.{equal}
use Rattle.decimal_value.proofs.equal.Goals as goal

-- Two numbers are compared by their f64. Assumes nothing.
pub returns : goal.returns
unfolding equal
returns c = rw (c.value.ensures, c.value-2.ensures)
