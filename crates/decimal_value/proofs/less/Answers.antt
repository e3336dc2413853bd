use Rattle.decimal_value.specs.Value.{less}
use Rattle.decimal_value.proofs.less.Goals as goal

-- Two numbers are compared by their f64. Assumes nothing.
pub returns : goal.returns
unfolding less
returns c = rw (c.value.ensures, c.value-2.ensures)
