use mathlib.Core.Path.{refl, sym, ◌∙◌}
use Rattle.std.proofs.lemmas.Result.{err_from_is_err_and}
use Rattle.values.specs.Code.{rule_of}
use Rattle.range_node.proofs.Ranges.{body-text, body-value}
use Rattle.range_node.proofs.range_body.Goals as goal

pub returns-in_err-end : goal.returns-in_err-end
returns-in_err-end c =
    λ st v.
    let p = err_from_is_err_and c.from_residual.result c.from_residual.ensures.1 in
    rw (p.1, p.2) (body-text _ _ _ st v _ _ _ _ tt (sym c.same.ensures ∙ c.if-same.true) c.in_err-end.ensures)

pub returns-then-same : goal.returns-then-same
returns-then-same c = λ st v. body-text _ _ _ st v _ _ _ _ v (sym c.same.ensures ∙ c.if-same.true) c.in_ok-end.ensures

pub returns-in_err-end-2 : goal.returns-in_err-end-2
unfolding rule_of
returns-in_err-end-2 c =
    λ st v.
    let p = err_from_is_err_and c.from_residual-in_err-end-2.result c.from_residual-in_err-end-2.ensures.1 in
    rw (p.1, p.2) (body-value _ _ c.args.found st v _ _ _ _ _ _ c.range_index-k.ensures refl _ (λ x h. tt) (sym c.same.ensures ∙ c.if-same.false) c.in_err-end-2.ensures)

pub returns : goal.returns
unfolding rule_of
returns c =
    λ st v. body-value _ _ _ st v _ _ _ _ _ _ c.range_index-k.ensures c.with_found.ensures _ (λ x h. h) (sym c.same.ensures ∙ c.if-same.false) c.in_ok-end-2.ensures
