use mathlib.Core.Path.{sym, ◌∙◌}
use Rattle.std.proofs.Common.{Ok, Err}
use Rattle.clf_c.proofs.Laws.{file-check}
use Rattle.clf_c.proofs.clf_check_file.Goals as goal

pub returns-in-Ok : goal.returns-in-Ok
returns-in-Ok c = file-check (Ok tt) _ (sym c.in-Ok.is ∙ c.check.ensures)

pub returns-in-Err : goal.returns-in-Err
returns-in-Err c = rw c.from.ensures (file-check (Err c.in-Err.why) _ (sym c.in-Err.is ∙ c.check.ensures))
