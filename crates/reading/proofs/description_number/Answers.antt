use mathlib.Core.Path.{sym}
use Rattle.std.proofs.lemmas.Result.{err_from_is_err_and}
use Rattle.reading.proofs.description_number.Goals as goal

pub returns-in_err-node_start : goal.returns-in_err-node_start
returns-in_err-node_start c =
    let p = err_from_is_err_and c.from_residual.result c.from_residual.ensures.1 in
    rw (p.1, p.2) (sym c.in_err-node_start.ensures)

pub returns : goal.returns
returns c = sym c.in_ok-node_start.ensures.0
