use lib.Ieee.{of_bits, of_int}
use Rattle.decimal_value.specs.Value.{ten_to}
use Rattle.decimal_value.proofs.Tens.{tens-at}
use Rattle.decimal_value.proofs.ten.Goals as goal

-- An entry of the table is the power of ten of its index. Assumes nothing.
pub returns : goal.returns
unfolding of_bits ten_to of_int
returns c = tens-at 23 c.args.k c.requires
