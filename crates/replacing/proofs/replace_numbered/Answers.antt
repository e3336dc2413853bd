use native.Mathlib.Omega.{arith}
use Rattle.std.proofs.lemmas.Result.{err_from_is_err_and}
use Rattle.replacing.proofs.Calls.{call-refused, call-late, call-newer}
use Rattle.replacing.proofs.replace_numbered.Goals as goal

pub returns-in_err-kept : goal.returns-in_err-kept
returns-in_err-kept c =
    let p = err_from_is_err_and c.from_residual.result c.from_residual.ensures.1 in
    rw (p.1, p.2) (call-refused _ _ _ _ c.in_err-kept.ensures)

pub returns-then-number-kept : goal.returns-then-number-kept
returns-then-number-kept c = call-late _ _ _ _ c.in_ok-kept.ensures.0 _ (omega (arith, c.if-number-kept.true, c.in_ok-kept.ensures.1))

pub returns : goal.returns
returns c = call-newer _ _ _ _ c.in_ok-kept.ensures.0 _ (omega (arith, c.if-number-kept.false, c.in_ok-kept.ensures.1)) _ _ _ c.replace_there.ensures
