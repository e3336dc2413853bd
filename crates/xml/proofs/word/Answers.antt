use native.Mathlib.Omega.{arith}
use Rattle.std.proofs.lemmas.Result.{err_from_is_err_and}
use Rattle.xml.proofs.Words.{word-start, word-done, word_more, word-failed}
use Rattle.xml.proofs.word.Goals as goal

pub loop-b-init : goal.loop-b-init
loop-b-init c = word-start _ _ _ _

pub returns-in_err-i : goal.returns-in_err-i
returns-in_err-i c =
    let p = err_from_is_err_and c.from_residual.result c.from_residual.ensures.1 in
    rw (p.1, p.2) (word-failed _ _ _ _ _ _ c.loop-b.invariant (omega arith) _ tt c.in_err-i.ensures)

pub loop-b-preserved : goal.loop-b-preserved
loop-b-preserved c = word_more _ _ _ _ _ _ c.loop-b.invariant (omega arith) _ c.in_ok-i.ensures

pub returns : goal.returns
returns c = word-done _ _ _ _ _ _ c.loop-b.invariant (omega arith)
