use native.Mathlib.Omega.{arith}
use Rattle.std.proofs.lemmas.Result.{err_from_is_err_and}
use Rattle.markup.proofs.Tags.{stranger-comment, stranger-question, stranger-element}
use Rattle.markup.proofs.forbidden.Goals as goal

pub returns-then-b-eq33 : goal.returns-then-b-eq33
returns-then-b-eq33 c = rw c.settled.ensures (stranger-comment _ _ (omega arith) _ c.comment.result c.if-b-eq33.true c.comment.ensures)

pub returns-then-b-eq63 : goal.returns-then-b-eq63
returns-then-b-eq63 c = stranger-question _ _ (omega arith) _ c.if-b-eq33.false c.if-b-eq63.true

pub returns-in_err-open_name : goal.returns-in_err-open_name
returns-in_err-open_name c =
    let p = err_from_is_err_and c.from_residual.result c.from_residual.ensures.1 in
    rw (p.1, p.2) (stranger-element _ _ (omega arith) _ c.if-b-eq33.false _ c.if-b-eq63.false c.in_err-open_name.ensures)

pub returns : goal.returns
returns c = stranger-element _ _ (omega arith) _ c.if-b-eq33.false _ c.if-b-eq63.false c.in_ok-open_name.ensures
