use Rattle.std.proofs.lemmas.Result.{err_from_is_err_and}
use Rattle.tags.proofs.AttributeLaws.{to-failed, to-no-equals, to-quote}
use Rattle.tags.proofs.to_quote.Goals as goal

pub returns-in_err-a : goal.returns-in_err-a
returns-in_err-a c = let p = err_from_is_err_and c.from_residual.result c.from_residual.ensures.1 in rw (p.1, p.2) (to-failed _ _ _ tt c.in_err-a.ensures)

pub returns-in_err-e : goal.returns-in_err-e
returns-in_err-e c =
    let p = err_from_is_err_and c.from_residual-in_err-e.result c.from_residual-in_err-e.ensures.1 in
    rw (p.1, p.2) (to-no-equals _ _ _ c.in_ok-a.ensures _ tt c.in_err-e.ensures)

pub returns : goal.returns
returns c = to-quote _ _ _ c.in_ok-a.ensures _ _ c.in_ok-e.ensures c.quote.ensures
