use Rattle.reads_back.proofs.Calls.{write-refuses}
use Rattle.reads_back.proofs.write_reading.Goals as goal

pub returns : goal.returns
returns c =
    let w = c.write in
    write-refuses _ (c.well_formed.0.1.1.1.0.1.0.1) _ w.result _ _ w.ensures.value w.ensures.out_after
