use Rattle.std.proofs.lemmas.Result.{err_from_is_err_and}
use Rattle.markup.proofs.Tags.{stray-end}
use Rattle.markup.proofs.stray_end.Goals as goal

pub returns-in_err-close_name : goal.returns-in_err-close_name
returns-in_err-close_name c =
    let p = err_from_is_err_and c.from_residual.result c.from_residual.ensures.1 in rw (p.1, p.2) (stray-end _ _ _ c.in_err-close_name.ensures)

pub returns : goal.returns
returns c = stray-end _ _ _ c.in_ok-close_name.ensures
