use Rattle.reads_back.proofs.Calls.{replace-refuses}
use Rattle.reads_back.proofs.replace_numbered_reading.Goals as goal

pub returns : goal.returns
returns c =
    let r = c.replace_numbered-answer in
    replace-refuses _ _ (c.well_formed.0.1.1.1.0.1.0.1) _ r.result _ _ r.ensures
