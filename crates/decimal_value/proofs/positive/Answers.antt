use lib.Ieee.{of_bits, of_int}
use Rattle.decimal_value.specs.Value.{positive}
use Rattle.decimal_value.proofs.positive.Goals as goal

-- A number is compared with 0 or 1 by its f64. Assumes nothing.
pub returns : goal.returns
unfolding positive of_bits of_int
returns c = rw c.value.ensures
