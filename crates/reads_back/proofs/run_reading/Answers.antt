use Rattle.reads_back.proofs.Calls.{run-refuses}
use Rattle.reads_back.proofs.run_reading.Goals as goal

pub returns : goal.returns
returns c =
    let r = c.run in
    run-refuses _ (c.well_formed.0.1.1.1.0.1.0.1) r.result _ _ r.ensures.value r.ensures.pixels_after
