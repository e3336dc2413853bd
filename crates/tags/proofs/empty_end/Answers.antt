use Rattle.std.proofs.lemmas.Result.{err_from_is_err_and}
use Rattle.tags.specs.Rules.{rules_of}
use Rattle.tags.proofs.Ends.{empty-bad, empty-done, empty-failed}
use Rattle.tags.proofs.empty_end.Goals as goal

pub returns-then-k-ne0 : goal.returns-then-k-ne0
returns-then-k-ne0 c =
    empty-bad (rules_of c.args.kind) _ _ _ c.requires _ c.in_ok-e.ensures _ c.emptied-k.ensures c.if-k-ne0.true

pub returns : goal.returns
returns c =
    empty-done (rules_of c.args.kind) _ _ _ c.requires _ c.in_ok-e.ensures _ c.emptied-k.ensures c.if-k-ne0.false

pub returns-in_err-e : goal.returns-in_err-e
returns-in_err-e c =
    let p = err_from_is_err_and c.from_residual.result c.from_residual.ensures.1 in rw (p.1, p.2) (empty-failed (rules_of c.args.kind) _ _ _ c.requires _ c.in_err-e.ensures)
