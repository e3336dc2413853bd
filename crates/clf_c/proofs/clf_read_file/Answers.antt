use mathlib.Core.Path.{sym, ◌∙◌}
use Rattle.clf_c.proofs.Laws.{accepted-read, refused-read}
use Rattle.clf_c.proofs.clf_read_file.Goals as goal

-- Reading's number and place, and the counts of its list.
pub returns-in-Ok : goal.returns-in-Ok
returns-in-Ok c =
    let r = c.read.ensures in
    record { answer = accepted-read _ _ c.in-Ok.list _ (sym c.in-Ok.is ∙ r.answer) c.used.ensures; room = r.room }

pub returns-in-Err : goal.returns-in-Err
returns-in-Err c =
    let r = c.read.ensures in
    record { answer = refused-read _ _ c.in-Err.why (sym c.in-Err.is ∙ r.answer); room = r.room }
