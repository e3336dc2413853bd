use Rattle.std.proofs.lemmas.Result.{err_from_is_err_and}
use Rattle.around_root.proofs.Turns.{root-open, root-end, root_none}
use Rattle.around_root.proofs.prologue.Goals as goal

pub returns-in_err-a : goal.returns-in_err-a
returns-in_err-a c =
    let p = err_from_is_err_and c.from_residual.result c.from_residual.ensures.1 in
    rw (p.1, p.2) (root_none _ _ _ _ c.in_err-a.ensures)

pub returns-in-Start : goal.returns-in-Start
returns-in-Start c = rw c.root_name.ensures (root-open _ _ _ _ (rw c.in-Start.is at c.in_ok-a.ensures))

pub returns-in-End : goal.returns-in-End
returns-in-End c = root-end _ _ _ (rw c.in-End.is at c.in_ok-a.ensures) _ c.stray_end.ensures
