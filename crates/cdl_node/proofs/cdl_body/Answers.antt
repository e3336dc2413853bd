use mathlib.Core.Path.{sym, ◌∙◌}
use Rattle.std.proofs.lemmas.Result.{err_from_is_err_and}
use Rattle.cdl_node.proofs.Cdls.{body-sop, body-sat, body-text}
use Rattle.cdl_node.proofs.cdl_body.Goals as goal

pub returns-in_err-end : goal.returns-in_err-end
returns-in_err-end c =
    λ st v.
    let p = err_from_is_err_and c.from_residual.result c.from_residual.ensures.1 in
    rw (p.1, p.2) (body-sop _ _ _ _ st v _ _ _ _ _ (λ x h. tt) (sym c.same.ensures ∙ c.if-same.true) c.in_err-end.ensures)

pub returns-then-same : goal.returns-then-same
returns-then-same c = λ st v. body-sop _ _ _ _ st v _ _ _ _ _ (λ x h. h) (sym c.same.ensures ∙ c.if-same.true) c.in_ok-end.ensures

pub returns-in_err-end-2 : goal.returns-in_err-end-2
returns-in_err-end-2 c =
    λ st v.
    let p = err_from_is_err_and c.from_residual-in_err-end-2.result c.from_residual-in_err-end-2.ensures.1 in
    rw (p.1, p.2) (body-sat _ _ _ _ st v _ _ _ _ _ (λ x h. tt) (sym c.same.ensures ∙ c.if-same.false) (sym c.same-2.ensures ∙ c.if-same-2.true) c.in_err-end-2.ensures)

pub returns-then-same-2 : goal.returns-then-same-2
returns-then-same-2 c =
    λ st v.
    body-sat _ _ _ _ st v _ _ _ _ _ (λ x h. h) (sym c.same.ensures ∙ c.if-same.false) (sym c.same-2.ensures ∙ c.if-same-2.true) c.in_ok-end-2.ensures

pub returns-in_err-end-3 : goal.returns-in_err-end-3
returns-in_err-end-3 c =
    λ st v.
    let p = err_from_is_err_and c.from_residual-in_err-end-3.result c.from_residual-in_err-end-3.ensures.1 in
    rw (p.1, p.2) (body-text _ _ _ _ st v _ _ _ _ tt (sym c.same.ensures ∙ c.if-same.false) (sym c.same-2.ensures ∙ c.if-same-2.false) c.in_err-end-3.ensures)

pub returns : goal.returns
returns c =
    λ st v. body-text _ _ _ _ st v _ _ _ _ v (sym c.same.ensures ∙ c.if-same.false) (sym c.same-2.ensures ∙ c.if-same-2.false) c.in_ok-end-3.ensures
