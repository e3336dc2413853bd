use mathlib.Core.Path.{sym, ◌∙◌}
use native.Mathlib.Omega.{arith}
use Rattle.values.proofs.Loop.{numbers-start, numbers-ended, numbers-space, numbers-end, numbers-token, numbers-stop}
use Rattle.std.proofs.lemmas.Result.{err_from_is_err_and}
use Rattle.values.proofs.stored_numbers.Goals as goal

pub loop-i-init : goal.loop-i-init
loop-i-init c = numbers-start _ _ _ _ _ _ _

pub loop-i-preserved-then-is_space : goal.loop-i-preserved-then-is_space
loop-i-preserved-then-is_space c = numbers-space c.loop-i.invariant (omega arith) (sym c.is_space.ensures ∙ c.if-is_space.true)

pub returns-then-b-eq60 : goal.returns-then-b-eq60
returns-then-b-eq60 c =
    numbers-end c.loop-i.invariant (omega arith) (sym c.is_space.ensures ∙ c.if-is_space.false) c.if-b-eq60.true _ _ c.too_few.ensures
    c.only_end.ensures

pub loop-i-preserved : goal.loop-i-preserved
loop-i-preserved c =
    numbers-token c.loop-i.invariant (omega arith) (sym c.is_space.ensures ∙ c.if-is_space.false) c.if-b-eq60.false _ c.in_ok-t.ensures _
    c.store.ensures

pub returns-in_err-t : goal.returns-in_err-t
returns-in_err-t c =
    let p = err_from_is_err_and c.from_residual.result c.from_residual.ensures.1 in
    rw (p.1, p.2) (numbers-stop c.loop-i.invariant (omega arith) (sym c.is_space.ensures ∙ c.if-is_space.false) c.if-b-eq60.false _ c.in_err-t.ensures)

pub returns : goal.returns
returns c = numbers-ended c.loop-i.invariant (omega arith)
