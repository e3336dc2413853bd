use mathlib.Core.Path.{◌≡◌, refl, sym, ◌∙◌}
use Rattle.std.specs.Prelude.{Option, Some, None, Ok, Err, ok_or}
use Rattle.std.proofs.lemmas.Result.{err_from_is_err_and}
use Rattle.process_list.specs.declared.Kind.{Kind}
use Rattle.xml.specs.declared.Stop.{Stop}
use Rattle.values.specs.Code.{rule_of}
use Rattle.tags.specs.Ended.{tag_of, tag-failed}
use Rattle.node_parts.proofs.Reading.{no_tag, tag-behind}
use Rattle.array_node.proofs.Arrays.{array-failed, array-other, array-counted}
use Rattle.array_node.specs.Code.{shape_of}
use Rattle.array_node.proofs.array.Goals as goal

kind-none : (o : Option Kind) (w x : Stop) → ok_or o w ≡ Err x → (o ≡ None) × (x ≡ w)
kind-none None w x q = (refl, cc)
kind-none (Some k) w x q = absurd cc

kind-some : (o : Option Kind) (w : Stop) (k : Kind) → ok_or o w ≡ Ok k → o ≡ Some k
kind-some None w k q = absurd cc
kind-some (Some j) w k q = cc

pub returns-in_err-tag : goal.returns-in_err-tag
returns-in_err-tag c =
    let p = err_from_is_err_and c.from_residual.result c.from_residual.ensures.1 in
    rw (p.1, p.2) (array-failed _ _ _ _ _ _ _ (tag-failed _ _ c.array_tag.ensures _ _ no_tag _ c.in_err-tag.ensures))

pub returns-in_err-kind : goal.returns-in_err-kind
unfolding tag_of
returns-in_err-kind c =
    let p = err_from_is_err_and c.from_residual-in_err-kind.result c.from_residual-in_err-kind.ensures.1 in
    let k = kind-none c.kind_of.result _ _ (sym c.ok_or.ensures.value ∙ c.in_err-kind.was) in
    rw (p.1, p.2, k.1) (array-other (shape_of c.args.table) _ _ _ _ _ (tag-behind _ _ c.array_tag.ensures _ _ _ _ c.behind-behind.ensures c.in_ok-tag.ensures) _ _ (rw k.0 at c.kind_of.ensures))

pub returns-in_err-end : goal.returns-in_err-end
unfolding tag_of rule_of
returns-in_err-end c =
    let p = err_from_is_err_and c.from_residual-in_err-end.result c.from_residual-in_err-end.ensures.1 in
    let k = kind-some c.kind_of.result _ _ (sym c.ok_or.ensures.value ∙ c.in_ok-kind.was) in
    rw (p.1, p.2) (array-counted c.args.table _ _ _ _ _ (tag-behind _ _ c.array_tag.ensures _ _ _ _ c.behind-behind.ensures c.in_ok-tag.ensures) _ _ _ _ _ _ (λ t h. tt) (rw k at c.kind_of.ensures) c.numbers_of-n.ensures
    c.in_err-end.ensures)

pub returns : goal.returns
unfolding tag_of rule_of
returns c =
    let k = kind-some c.kind_of.result _ _ (sym c.ok_or.ensures.value ∙ c.in_ok-kind.was) in
    array-counted c.args.table _ _ _ _ _ (tag-behind _ _ c.array_tag.ensures _ _ _ _ c.behind-behind.ensures c.in_ok-tag.ensures) _ _ _ _ _ _ (λ t h. h) (rw k at c.kind_of.ensures) c.numbers_of-n.ensures c.in_ok-end.ensures
