use Rattle.std.proofs.lemmas.Result.{err_from_is_err_and}
use Rattle.reading.specs.Code.{judged_step}
use Rattle.reading.proofs.judge_text.Goals as goal

pub returns-in-Err : goal.returns-in-Err
unfolding judged_step
returns-in-Err c = rw (c.in-Err.is, c.refused_by.ensures)

pub returns-in_err-judge : goal.returns-in_err-judge
unfolding judged_step
returns-in_err-judge c =
    let p = err_from_is_err_and c.from_residual.result c.from_residual.ensures.1 in
    rw (p.1, p.2, c.in_default.is, ← c.in_err-judge.ensures)

pub returns : goal.returns
unfolding judged_step
returns c = rw (c.in_default.is, ← c.in_ok-judge.ensures)
