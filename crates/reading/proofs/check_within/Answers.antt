use mathlib.Core.Path.{sym, ◌∙◌}
use Rattle.std.proofs.lemmas.Result.{err_from_is_err_and}
use Rattle.reading.proofs.Laws.{judged-large, judged-alone}
use Rattle.reading.proofs.check_within.Goals as goal

pub returns-in_err-judge_length : goal.returns-in_err-judge_length
returns-in_err-judge_length c =
    let p = err_from_is_err_and c.from_residual.result c.from_residual.ensures.1 in
    rw (p.1, p.2) (judged-large _ _ _ (sym c.in_err-judge_length.ensures))

pub returns : goal.returns
returns c = c.judge_text.ensures ∙ judged-alone _ _ _ c.text_alone.ensures (sym c.in_ok-judge_length.ensures) _
