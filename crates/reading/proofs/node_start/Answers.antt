use mathlib.Core.Path.{sym}
use Rattle.std.proofs.lemmas.Result.{err_from_is_err_and}
use Rattle.reading.proofs.Laws.{node-large, node-ill, node-zero, node-beyond, node-well}
use Rattle.reading.proofs.node_start.Goals as goal
use Rattle.reading.proofs.node_start.Goals.{then-k-eq0-via-then-k-eq0, then-k-eq0-via-else-k-eq0+then-step-k}

pub returns-in_err-judge_length : goal.returns-in_err-judge_length
returns-in_err-judge_length c =
    let p = err_from_is_err_and c.from_residual.result c.from_residual.ensures.1 in
    rw (p.1, p.2) (node-large _ _ _ (sym c.in_err-judge_length.ensures))

pub returns-in_err-judge_text : goal.returns-in_err-judge_text
returns-in_err-judge_text c =
    let p = err_from_is_err_and c.from_residual-in_err-judge_text.result c.from_residual-in_err-judge_text.ensures.1 in
    rw (p.1, p.2) (node-ill _ _ _ c.text_alone-step.ensures (sym c.in_ok-judge_length.ensures) _ (sym c.in_err-judge_text.ensures))

pub returns-then-k-eq0 : goal.returns-then-k-eq0
returns-then-k-eq0 c =
    elim c.then-k-eq0.branch [
      | then-k-eq0-via-then-k-eq0 w ↦ node-zero _ _ _ c.text_alone-step.ensures (sym c.in_ok-judge_length.ensures) (sym c.in_ok-judge_text.ensures) w.if-k-eq0.true
      | then-k-eq0-via-else-k-eq0+then-step-k w ↦
          node-beyond _ _ _ c.text_alone-step.ensures (sym c.in_ok-judge_length.ensures) (sym c.in_ok-judge_text.ensures) w.if-step-k.true
    ]

pub returns : goal.returns
returns c =
    node-well _ _ _ c.text_alone-step.ensures (sym c.in_ok-judge_length.ensures) (sym c.in_ok-judge_text.ensures) c.if-k-eq0.false c.if-step-k.false
