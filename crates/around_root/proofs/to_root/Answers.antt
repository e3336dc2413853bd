use Rattle.std.proofs.lemmas.Result.{err_from_is_err_and}
use Rattle.around_root.proofs.Turns.{before-declared, before-other}
use Rattle.around_root.proofs.to_root.Goals as goal

pub returns-in_err-e : goal.returns-in_err-e
returns-in_err-e c =
    let p = err_from_is_err_and c.from_residual.result c.from_residual.ensures.1 in
    rw (p.1, p.2) (before-other _ _ _ c.word-declaration.ensures _ c.in_err-e.ensures)

pub returns : goal.returns
returns c = before-declared _ _ _ c.word-declaration.ensures _ _ c.in_ok-e.ensures c.prologue.ensures
