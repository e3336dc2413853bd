use native.Mathlib.Omega.{arith}
use Rattle.std.proofs.lemmas.Result.{err_from_is_err_and}
use Rattle.xml.proofs.Comments.{comment-none, comment-rest}
use Rattle.xml.proofs.comment_found.Goals as goal

pub returns-in_err-e : goal.returns-in_err-e
returns-in_err-e c =
    let p = err_from_is_err_and c.from_residual.result c.from_residual.ensures.1 in
    rw (p.1, p.2) (comment-none _ _ (omega arith) _ tt c.in_err-e.ensures)

pub returns : goal.returns
returns c = comment-rest _ _ (omega arith) _ _ c.in_ok-e.ensures c.comment_body.ensures
