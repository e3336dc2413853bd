-- A content by its pieces, and an element by its name, its start tag and its content.
use Prim.Native.Nat.{◌-◌}
use native.Mathlib.Omega.{arith}
use Rattle.std.proofs.lemmas.Result.{err_from_is_err_and}
use Rattle.xml.specs.Elements.{info_content, info_element}
use Rattle.info.proofs.Behind.{rest-open, rest-empty, rest-failed}
use Rattle.info.proofs.Contents.{content-ended, content-passed, content-forward, content-failed, content-end, content-child}
use Rattle.info.proofs.Contents.{content-child-failed, element-unnamed, element-deep, element-rest}
use Rattle.info.proofs.+content_element.Goals as goal

pub content-returns-in_err-q : goal.content-returns-in_err-q
content-returns-in_err-q t c =
    let p = err_from_is_err_and c.from_residual.result c.from_residual.ensures.1 in
    rw (p.1, p.2) (content-failed c.loop-i.invariant _ c.in_err-q.ensures)

pub content-loop-i-smaller-in-Passed : goal.content-loop-i-smaller-in-Passed
content-loop-i-smaller-in-Passed t c = omega (arith, content-forward c.loop-i.invariant _ (rw c.in-Passed.is at c.in_ok-q.ensures))

pub content-loop-i-preserved-in-Passed : goal.content-loop-i-preserved-in-Passed
content-loop-i-preserved-in-Passed t c = content-passed c.loop-i.invariant _ (rw c.in-Passed.is at c.in_ok-q.ensures)

pub content-returns-in-End : goal.content-returns-in-End
content-returns-in-End t c = content-end c.loop-i.invariant _ (rw c.in-End.is at c.in_ok-q.ensures) c.end_tag.ensures

pub content-returns-in_err-i-in-Child : goal.content-returns-in_err-i-in-Child
content-returns-in_err-i-in-Child t c =
    let p = err_from_is_err_and c.from_residual-in_err-i-in-Child.result c.from_residual-in_err-i-in-Child.ensures.1 in
    rw (p.1, p.2) (content-child-failed c.loop-i.invariant _ (rw c.in-Child.is at c.in_ok-q.ensures) c.in_err-i-in-Child.ensures tt)

pub content-loop-i-preserved : goal.content-loop-i-preserved
content-loop-i-preserved t c = content-child c.loop-i.invariant _ (rw c.in-Child.is at c.in_ok-q.ensures) c.in_ok-i-in-Child.ensures

pub content-returns : goal.content-returns
content-returns t c = content-ended c.loop-i.invariant (omega arith)

pub element-returns-in_err-e : goal.element-returns-in_err-e
element-returns-in_err-e t c =
    let p = err_from_is_err_and c.from_residual.result c.from_residual.ensures.1 in
    rw (p.1, p.2) (element-unnamed _ _ _ _ tt c.in_err-e.ensures)

pub element-returns-then-left-eq0 : goal.element-returns-then-left-eq0
element-returns-then-left-eq0 t c = element-deep _ _ _ _ c.in_ok-e.ensures c.if-left-eq0.true

pub element-returns-in_err-q : goal.element-returns-in_err-q
element-returns-in_err-q t c =
    let p = err_from_is_err_and c.from_residual-in_err-q.result c.from_residual-in_err-q.ensures.1 in
    rw (p.1, p.2) (element-rest _ _ _ _ c.in_ok-e.ensures _ c.if-left-eq0.false
    (rest-failed (info_content (info_element (c.args.left - 1)) _) _ _ _ c.in_err-q.ensures))

pub element-returns-in-Open : goal.element-returns-in-Open
element-returns-in-Open t c =
    element-rest _ _ _ _ c.in_ok-e.ensures _ c.if-left-eq0.false
    (rest-open (info_content (info_element (c.args.left - 1)) _) _ _ _ c.in_ok-q.ensures _ _ c.in-Open.is
    (rw c.part.ensures at c.content.ensures))

pub element-returns-in-Empty : goal.element-returns-in-Empty
element-returns-in-Empty t c =
    element-rest _ _ _ _ c.in_ok-e.ensures _ c.if-left-eq0.false
    (rest-empty (info_content (info_element (c.args.left - 1)) _) _ _ _ c.in_ok-q.ensures _ c.in-Empty.is)
