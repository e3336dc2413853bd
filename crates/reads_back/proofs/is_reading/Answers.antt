use Rattle.reads_back.proofs.Calls.{valid-both}
use Rattle.reads_back.proofs.is_reading.Goals as goal

pub returns : goal.returns
returns c = valid-both _ (c.well_formed.0.1.1.1.0.1.0.1) c.valid.result c.valid.ensures
