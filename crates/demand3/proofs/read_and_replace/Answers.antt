use Rattle.demand3.proofs.Whole.{said-and, promise}
use Rattle.demand3.proofs.read_and_replace.Goals as goal

pub returns : goal.returns
returns c =
    let run = c.replace_all-left in
    let read = c.read-answer in
    promise _ _ read.result run.result _ _ _ _ _ _ _ read.ensures _ c.list_left-list.ensures run.ensures _ (said-and read.result _ c.and.ensures)
