use native.Mathlib.Omega.{arith}
use mathlib.Core.Path.{sym}
use Rattle.std.proofs.lemmas.Result.{err_from_is_err_and}
use Rattle.tags.specs.Rules.{rules_of}
use Rattle.tags.proofs.AttributeLaws.{named-bad, named-quote, named-failed}
use Rattle.tags.proofs.attribute_named.Goals as goal

pub returns-then-k-ne0 : goal.returns-then-k-ne0
returns-then-k-ne0 c =
    named-bad (rules_of c.args.kind) _ _ _ _ c.requires _ (rw c.part.ensures at c.name_fault-k.ensures) c.if-k-ne0.true

pub attribute_text-requires : goal.attribute_text-requires
attribute_text-requires c = (c.requires.0, omega (arith, c.in_ok-q.ensures.inside), c.in_ok-q.ensures.inside.1, sym c.in_ok-q.ensures.out)

pub returns : goal.returns
returns c =
    named-quote (rules_of c.args.kind) _ _ _ _ c.requires _ (rw c.part.ensures at c.name_fault-k.ensures) c.if-k-ne0.false _ _ c.in_ok-q.ensures c.attribute_text.ensures

pub returns-in_err-q : goal.returns-in_err-q
returns-in_err-q c =
    let p = err_from_is_err_and c.from_residual.result c.from_residual.ensures.1 in
    rw (p.1, p.2) (named-failed (rules_of c.args.kind) _ _ _ _ c.requires _ (rw c.part.ensures at c.name_fault-k.ensures) c.if-k-ne0.false _ c.in_err-q.ensures)
