use native.Mathlib.Omega.{arith}
use borrow.Author.Tests.{eq-eqb, ne_eqb}
use Rattle.std.proofs.lemmas.Result.{err_from_is_err_and}
use Rattle.xml.proofs.Texts.{text-start, text-end, text-stop, text-less, text-more, text-and, text-failed}
use Rattle.xml.proofs.text_to.Goals as goal

pub loop-i-init : goal.loop-i-init
loop-i-init c = text-start _ _ _

pub returns-then-b-stop : goal.returns-then-b-stop
returns-then-b-stop c = text-stop _ _ _ _ c.loop-i.invariant (omega arith) (eq-eqb _ _ c.if-b-stop.true)

pub returns-then-b-eq60 : goal.returns-then-b-eq60
returns-then-b-eq60 c = text-less _ _ _ _ c.loop-i.invariant (omega arith) (ne_eqb _ _ c.if-b-stop.false) c.if-b-eq60.true

pub returns-in_err-i : goal.returns-in_err-i
returns-in_err-i c =
    let p = err_from_is_err_and c.from_residual.result c.from_residual.ensures.1 in
    rw (p.1, p.2) (text-failed _ _ _ _ c.loop-i.invariant (omega arith) (ne_eqb _ _ c.if-b-stop.false) c.if-b-eq60.false c.if-b-eq38.true _ tt c.in_err-i.ensures)

pub loop-i-smaller-then-b-eq38 : goal.loop-i-smaller-then-b-eq38
loop-i-smaller-then-b-eq38 c = omega (arith, c.in_ok-i.ensures.inside)

pub loop-i-preserved-then-b-eq38 : goal.loop-i-preserved-then-b-eq38
loop-i-preserved-then-b-eq38 c =
    text-and _ _ _ _ c.loop-i.invariant (omega arith) (ne_eqb _ _ c.if-b-stop.false) c.if-b-eq60.false c.if-b-eq38.true _ c.in_ok-i.ensures

pub loop-i-smaller : goal.loop-i-smaller
loop-i-smaller c = omega arith

pub loop-i-preserved : goal.loop-i-preserved
loop-i-preserved c = text-more _ _ _ _ c.loop-i.invariant (omega arith) (ne_eqb _ _ c.if-b-stop.false) c.if-b-eq60.false c.if-b-eq38.false

pub returns : goal.returns
returns c = text-end _ _ _ _ c.loop-i.invariant (omega arith)
