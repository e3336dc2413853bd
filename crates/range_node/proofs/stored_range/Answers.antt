use mathlib.Core.Path.{refl}
use Rattle.std.proofs.lemmas.Result.{err_from_is_err_and}
use Rattle.tags.specs.Rules.{rules_of}
use Rattle.tags.specs.Ended.{tag-failed}
use Rattle.tags.specs.declared.TagKind.TheVariants.{Range}
use Rattle.values.proofs.Stored.{cleared-laid}
use Rattle.node_parts.proofs.Reading.{no_tag, tag-behind}
use Rattle.range_node.proofs.Ranges.{allowed-is, made-is, range-failed, range-read, range-is}
use Rattle.range_node.proofs.stored_range.Goals as goal

pub returns-in_err-tag : goal.returns-in_err-tag
unfolding rules_of
returns-in_err-tag c =
    let p = err_from_is_err_and c.from_residual.result c.from_residual.ensures.1 in
    rw (p.1, p.2) (range-failed _ _ _ _ _ _ (tag-failed _ Range refl _ _ no_tag _ c.in_err-tag.ensures))

pub returns-in_err-content : goal.returns-in_err-content
unfolding rules_of
returns-in_err-content c =
    let p = err_from_is_err_and c.from_residual-in_err-content.result c.from_residual-in_err-content.ensures.1 in
    rw (p.1, p.2) (range-read _ _ _ _ c.in_ok-tag.tag _ _ _ _ _ _ (λ st h. tt) (λ u. refl) (tag-behind _ Range refl _ _ _ _ c.behind.ensures c.in_ok-tag.ensures)
    (allowed-is _ _ _ _ _ _ c.style_is.ensures c.range_style-style.ensures c.depth_at-input.ensures c.depth_at-output.ensures c.one_end_allowed-allowed.ensures)
    c.in_err-content.ensures)

pub returns : goal.returns
unfolding rules_of
returns c =
    let y = made-is _ _ _ _ _ _ _ _ _ _ _ refl c.style_is.ensures c.range_style-style.ensures c.depth_at-input.ensures c.depth_at-output.ensures c.id_at-id.ensures c.found_kind-kind.ensures
    c.unplaced.ensures in
    range-read _ _ _ _ c.in_ok-tag.tag _ _ _ _ _ _ (λ st h. range-is _ _ _ _ _ _ _ _ _ st h c.store_found.ensures y) (λ u. cleared-laid _ _ _ _ c.store_found.ensures)
    (tag-behind _ Range refl _ _ _ _ c.behind.ensures c.in_ok-tag.ensures)
    (allowed-is _ _ _ _ _ _ c.style_is.ensures c.range_style-style.ensures c.depth_at-input.ensures c.depth_at-output.ensures c.one_end_allowed-allowed.ensures)
    c.in_ok-content.ensures
