use lib.Ieee.{of_bits, of_int}
use Rattle.decimal_value.specs.Value.{not_negative}
use Rattle.decimal_value.proofs.not_negative.Goals as goal

-- A number is compared with 0 or 1 by its f64. Assumes nothing.
pub returns : goal.returns
unfolding not_negative of_bits of_int
returns c = rw c.value.ensures
