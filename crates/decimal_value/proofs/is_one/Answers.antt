use lib.Ieee.{of_bits, of_int}
use Rattle.decimal_value.specs.Value.{is_one}
use Rattle.decimal_value.proofs.is_one.Goals as goal

-- A number is compared with 0 or 1 by its f64. Assumes nothing.
pub returns : goal.returns
unfolding is_one of_bits of_int
returns c = rw c.value.ensures
