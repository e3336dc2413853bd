use mathlib.Core.Path.{ap}
use lib.ListN.{length}
use Rattle.reads_back.proofs.Calls.{describes}
use Rattle.reads_back.proofs.describe.Goals as goal

pub returns : goal.returns
returns c = describes _ _ c.description_number-checked.result _ c.description_number-checked.ensures (ap length c.description-part.ensures.bytes)
