use mathlib.Core.Path.{sym}
use Rattle.std.proofs.lemmas.Result.{err_from_is_err_and}
use Rattle.reading.proofs.Laws.{list-large, list-ill, list-well}
use Rattle.reading.proofs.read_list.Goals as goal

pub returns-in_err-judge_length : goal.returns-in_err-judge_length
returns-in_err-judge_length c =
    let p = err_from_is_err_and c.from_residual.result c.from_residual.ensures.1 in
    rw (p.1, p.2) (list-large _ _ _ (sym c.in_err-judge_length.ensures))

pub returns-in_err-judge_text : goal.returns-in_err-judge_text
returns-in_err-judge_text c =
    let p = err_from_is_err_and c.from_residual-in_err-judge_text.result c.from_residual-in_err-judge_text.ensures.1 in
    rw (p.1, p.2)
    (list-ill _ _ _ _ (sym c.in_ok-judge_length.ensures) _ c.length-length.ensures c.file_list-step.ensures _ (sym c.in_err-judge_text.ensures))

pub returns : goal.returns
returns c =
    rw c.placed.ensures
    (list-well _ _ _ _ (sym c.in_ok-judge_length.ensures) _ c.length-length.ensures c.file_list-step.ensures (sym c.in_ok-judge_text.ensures))
