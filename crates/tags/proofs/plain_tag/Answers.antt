use Rattle.std.specs.Prelude.{Ok, Err}
use Rattle.std.proofs.lemmas.Result.{err_from_is_err_and}
use Rattle.tags.specs.Rules.{rules_of}
use Rattle.tags.specs.declared.TagKind.TheVariants.{Plain}
use Rattle.tags.specs.Ended.{ends_as}
use Rattle.tags.proofs.Ends.{open-at-once, plainly}
use Rattle.tags.proofs.plain_tag.Goals as goal

pub returns-then-s-at-eq62 : goal.returns-then-s-at-eq62
returns-then-s-at-eq62 c = open-at-once _ _ c.if-at-s.true c.if-s-at-eq62.true

pub returns : goal.returns
returns c = plainly _ _ _ (ends_as (rules_of Plain) _ _ (Ok c.in_ok-tag.tag) c.in_ok-tag.ensures.0 c.in_ok-tag.ensures.1)

pub returns-in_err-tag : goal.returns-in_err-tag
returns-in_err-tag c =
    let p = err_from_is_err_and c.from_residual.result c.from_residual.ensures.1 in
    rw (p.1, p.2) (plainly _ _ _ (ends_as (rules_of Plain) _ _ (Err _) c.in_err-tag.ensures.0 c.in_err-tag.ensures.1))
