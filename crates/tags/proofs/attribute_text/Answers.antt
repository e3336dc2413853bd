use Rattle.std.proofs.lemmas.Result.{err_from_is_err_and}
use Rattle.tags.specs.Rules.{rules_of}
use Rattle.tags.proofs.AttributeLaws.{text-bad, text-cut, text-done, text-failed}
use Rattle.tags.proofs.attribute_text.Goals as goal

pub returns-then-k-ne0 : goal.returns-then-k-ne0
returns-then-k-ne0 c =
    text-bad (rules_of c.args.kind) _ _ _ _ c.requires _ c.in_ok-t.ensures _
    (rw (c.part.ensures, c.part-2.ensures) at c.text_fault-k.ensures) c.if-k-ne0.true

pub returns-then-s-t : goal.returns-then-s-t
returns-then-s-t c =
    text-cut (rules_of c.args.kind) _ _ _ _ c.requires _ c.in_ok-t.ensures _
    (rw (c.part.ensures, c.part-2.ensures) at c.text_fault-k.ensures) c.if-k-ne0.false c.if-s-t.true

pub returns : goal.returns
returns c =
    text-done (rules_of c.args.kind) _ _ _ _ c.requires _ c.in_ok-t.ensures _
    (rw (c.part.ensures, c.part-2.ensures) at c.text_fault-k.ensures) c.if-k-ne0.false c.if-s-t.false

pub returns-in_err-t : goal.returns-in_err-t
returns-in_err-t c =
    let p = err_from_is_err_and c.from_residual.result c.from_residual.ensures.1 in rw (p.1, p.2) (text-failed (rules_of c.args.kind) _ _ _ _ c.requires _ c.in_err-t.ensures)
