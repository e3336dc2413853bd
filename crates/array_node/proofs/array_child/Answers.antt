use mathlib.Core.Path.{sym, ◌∙◌}
use Rattle.std.proofs.lemmas.Result.{err_from_is_err_and}
use Rattle.array_node.proofs.Arrays.{child-behind, child-array, child-text, child-other, array-found}
use Rattle.array_node.proofs.array_child.Goals as goal

pub returns-then-is_some : goal.returns-then-is_some
returns-then-is_some c =
    λ m₀ st v. child-behind c.args.table _ _ _ _ _ c.part-w.ensures c.requires.0 c.requires.1 m₀ _ _ st v _ (sym c.is_some.ensures ∙ c.if-is_some.true)

pub returns-in_err-array : goal.returns-in_err-array
returns-in_err-array c =
    λ m₀ st v.
    let p = err_from_is_err_and c.from_residual.result c.from_residual.ensures.1 in
    rw (p.1, p.2) (child-array c.args.table _ _ _ _ _ c.part-w.ensures c.requires.0 c.requires.1 m₀ _ _ st v _ (sym c.is_some.ensures ∙ c.if-is_some.false) _ _ _ (λ t h. tt)
    (sym c.same.ensures ∙ c.if-same.true) c.in_err-array.ensures)

pub returns-then-same : goal.returns-then-same
returns-then-same c =
    λ m₀ st v.
    let q = sym c.is_some.ensures ∙ c.if-is_some.false in
    child-array c.args.table _ _ _ _ _ c.part-w.ensures c.requires.0 c.requires.1 m₀ _ _ st v _ q _ _ _ (array-found _ _ _ _ _ _ v q _) (sym c.same.ensures ∙ c.if-same.true)
    c.in_ok-array.ensures

pub returns-in_err-end : goal.returns-in_err-end
returns-in_err-end c =
    λ m₀ st v.
    let p = err_from_is_err_and c.from_residual-in_err-end.result c.from_residual-in_err-end.ensures.1 in
    rw (p.1, p.2) (child-text c.args.table _ _ _ _ _ c.part-w.ensures c.requires.0 c.requires.1 m₀ _ _ st v _ (sym c.is_some.ensures ∙ c.if-is_some.false) _ tt
    (sym c.same.ensures ∙ c.if-same.false) (sym c.same-2.ensures ∙ c.if-same-2.true) c.in_err-end.ensures)

pub returns-then-same-2 : goal.returns-then-same-2
returns-then-same-2 c =
    λ m₀ st v.
    child-text c.args.table _ _ _ _ _ c.part-w.ensures c.requires.0 c.requires.1 m₀ _ _ st v _ (sym c.is_some.ensures ∙ c.if-is_some.false) _ v
    (sym c.same.ensures ∙ c.if-same.false) (sym c.same-2.ensures ∙ c.if-same-2.true) c.in_ok-end.ensures

pub returns : goal.returns
returns c =
    λ m₀ st v.
    child-other c.args.table _ _ _ _ _ c.part-w.ensures c.requires.0 c.requires.1 m₀ _ _ st v _ (sym c.is_some.ensures ∙ c.if-is_some.false)
    (sym c.same.ensures ∙ c.if-same.false) (sym c.same-2.ensures ∙ c.if-same-2.false)
