use mathlib.Core.Path.{refl}
use Rattle.std.proofs.lemmas.Result.{err_from_is_err_and}
use Rattle.tags.specs.Rules.{rules_of}
use Rattle.tags.specs.Ended.{tag-failed}
use Rattle.tags.specs.declared.TagKind.TheVariants.{Holder}
use Rattle.node_parts.proofs.Reading.{no_tag, tag-behind}
use Rattle.cdl_node.proofs.Inner.{inner-failed, inner-then}
use Rattle.cdl_node.proofs.inner_node.Goals as goal

pub returns-in_err-tag : goal.returns-in_err-tag
unfolding rules_of
returns-in_err-tag c =
    let p = err_from_is_err_and c.from_residual.result c.from_residual.ensures.1 in
    rw (p.1, p.2) (inner-failed c.args.part _ _ _ _ (tag-failed _ Holder refl _ _ no_tag _ c.in_err-tag.ensures))

pub returns : goal.returns
unfolding rules_of
returns c = inner-then c.args.part _ _ _ _ _ _ (tag-behind _ Holder refl _ _ _ _ c.behind.ensures c.in_ok-tag.ensures) c.inner_content.ensures
