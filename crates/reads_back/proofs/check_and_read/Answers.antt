use Rattle.reads_back.proofs.Calls.{checked-read}
use Rattle.reads_back.proofs.check_and_read.Goals as goal

pub returns : goal.returns
returns c =
    let r = c.read-answer in
    let k = c.check_within-checked in
    checked-read _ _ k.result r.result _ _ c.length-length.ensures k.ensures r.ensures
