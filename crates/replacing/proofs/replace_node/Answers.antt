use Rattle.std.proofs.lemmas.Result.{err_from_is_err_and}
use Rattle.replacing.proofs.Rooms.{code-refused, code-replaced}
use Rattle.replacing.proofs.replace_node.Goals as goal

pub returns-in_err-judge : goal.returns-in_err-judge
returns-in_err-judge c =
    let p = err_from_is_err_and c.from_residual.result c.from_residual.ensures.1 in
    rw (p.1, p.2)
    (code-refused _ _ _ _ _ _ c.requires _ c.with_newest-numbered.ensures _ c.replaced-next.ensures _ c.length-room.ensures _ c.in_err-judge.ensures)

pub returns : goal.returns
returns c =
    code-replaced _ _ _ _ _ _ c.requires _ c.with_newest-numbered.ensures _ c.replaced-next.ensures _ c.length-room.ensures c.in_ok-judge.ensures _
    c.store_element.ensures _ c.placed.ensures
