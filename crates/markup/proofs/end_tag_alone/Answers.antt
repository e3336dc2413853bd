use mathlib.Core.Path.{sym, ◌∙◌}
use native.Mathlib.Omega.{arith}
use Rattle.std.proofs.lemmas.Result.{err_from_is_err_and}
use Rattle.markup.proofs.Tags.{end-failed, end-other, end_same}
use Rattle.markup.proofs.end_tag_alone.Goals as goal

pub returns-in_err-e : goal.returns-in_err-e
returns-in_err-e c = let p = err_from_is_err_and c.from_residual.result c.from_residual.ensures.1 in rw (p.1, p.2) (end-failed _ _ _ _ tt c.in_err-e.ensures)

pub overflow_add-at : goal.overflow_add-at
overflow_add-at c = omega (arith, c.in_ok-e.ensures.inside)

pub slice_bounds-same-count : goal.slice_bounds-same-count
slice_bounds-same-count c = omega (arith, c.in_ok-e.ensures.inside)

pub slice_bounds-same-start : goal.slice_bounds-same-start
slice_bounds-same-start c = omega (arith, c.in_ok-e.ensures.inside)

pub slice_bounds-same-end : goal.slice_bounds-same-end
slice_bounds-same-end c = omega (arith, c.in_ok-e.ensures.inside)

pub returns-then-same : goal.returns-then-same
returns-then-same c = end_same _ _ _ _ c.in_ok-e.ensures _ (sym c.same.ensures ∙ c.if-same.true) c.spaces_byte.ensures

pub returns : goal.returns
returns c = end-other _ _ _ _ c.in_ok-e.ensures (sym c.same.ensures ∙ c.if-same.false)
