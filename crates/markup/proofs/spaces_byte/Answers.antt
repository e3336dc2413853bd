use Rattle.std.proofs.lemmas.Result.{err_from_is_err_and}
use Rattle.markup.proofs.Tags.{spaces-failed, spaces-then}
use Rattle.markup.proofs.spaces_byte.Goals as goal

pub returns-in_err-e : goal.returns-in_err-e
returns-in_err-e c = let p = err_from_is_err_and c.from_residual.result c.from_residual.ensures.1 in rw (p.1, p.2) (spaces-failed _ _ _ _ tt c.in_err-e.ensures)

pub returns : goal.returns
returns c = spaces-then _ _ _ _ _ c.in_ok-e.ensures c.byte.ensures
