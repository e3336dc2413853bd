use mathlib.Core.Path.{sym, ◌∙◌}
use Rattle.std.proofs.lemmas.Result.{err_from_is_err_and}
use Rattle.tags.proofs.Lists.{stored, full}
use Rattle.tags.proofs.Ends.{tag-start, tag-end, tag-space, tag_open, tag-empty, tag-other, tag-failed, tag-attribute, closes, stops}
use Rattle.xml.specs.declared.Stop.TheVariants.{Fault, Cut}
use Rattle.tags.proofs.start_tag.Goals.{then-n-lt16, else-n-lt16}
use Rattle.tags.proofs.start_tag.Goals as goal

-- The answer from the start is the answer from here, with the attributes so far. Assumes nothing.
-- behind an attribute: it is stored, or the list is full
pub loop-i-init : goal.loop-i-init
loop-i-init c = rw c.no_attributes-attributes.ensures (tag-start _ _ _)

pub loop-i-preserved-then-is_space : goal.loop-i-preserved-then-is_space
loop-i-preserved-then-is_space c =
    tag-space c.loop-i.invariant c.loop-i-test.true (sym c.is_space.ensures ∙ c.if-is_space.true)

pub returns-then-b-eq62 : goal.returns-then-b-eq62
returns-then-b-eq62 c =
    closes _ _ _ _ _
    (tag_open c.loop-i.invariant c.loop-i-test.true (sym c.is_space.ensures ∙ c.if-is_space.false) c.if-b-eq62.true _ c.in_ok-end.ensures)

pub returns-in_err-end : goal.returns-in_err-end
returns-in_err-end c =
    let p = err_from_is_err_and c.from_residual.result c.from_residual.ensures.1 in
    rw (p.1, p.2) (stops _ _ _ _ _
    (tag_open c.loop-i.invariant c.loop-i-test.true (sym c.is_space.ensures ∙ c.if-is_space.false) c.if-b-eq62.true _ c.in_err-end.ensures))

pub returns-then-b-eq47 : goal.returns-then-b-eq47
returns-then-b-eq47 c =
    closes _ _ _ _ _
    (tag-empty c.loop-i.invariant c.loop-i-test.true
    (sym c.is_space.ensures ∙ c.if-is_space.false) c.if-b-eq62.false c.if-b-eq47.true _ c.in_ok-end-2.ensures)

pub returns-in_err-end-2 : goal.returns-in_err-end-2
returns-in_err-end-2 c =
    let p = err_from_is_err_and c.from_residual-in_err-end-2.result c.from_residual-in_err-end-2.ensures.1 in
    rw (p.1, p.2) (stops _ _ _ _ _
    (tag-empty c.loop-i.invariant c.loop-i-test.true
    (sym c.is_space.ensures ∙ c.if-is_space.false) c.if-b-eq62.false c.if-b-eq47.true _ c.in_err-end-2.ensures))

pub returns-in_err-a : goal.returns-in_err-a
returns-in_err-a c =
    let p = err_from_is_err_and c.from_residual-in_err-a.result c.from_residual-in_err-a.ensures.1 in
    rw (p.1, p.2) (stops _ _ _ _ _
    (tag-failed c.loop-i.invariant c.loop-i-test.true (sym c.is_space.ensures ∙ c.if-is_space.false) c.if-b-eq62.false
    c.if-b-eq47.false c.if-spaced.true _ c.in_err-a.ensures))

pub loop-i-preserved : goal.loop-i-preserved
loop-i-preserved c =
    let more = tag-attribute c.loop-i.invariant c.loop-i-test.true (sym c.is_space.ensures ∙ c.if-is_space.false)
    c.if-b-eq62.false c.if-b-eq47.false c.if-spaced.true _ c.in_ok-a.ensures in
    elim c.if-n-lt16.branch [
      | then-n-lt16 w ↦ more _ (w.attributes-is ∙ stored _ _ _ _ _ w.if-n-lt16.true)
      | else-n-lt16 w ↦ more _ (w.attributes-is ∙ full _ _ _ _ _ w.if-n-lt16.false)
    ]

pub returns-else-spaced : goal.returns-else-spaced
returns-else-spaced c =
    stops _ _ _ _ (Fault 2 _)
    (tag-other c.loop-i.invariant c.loop-i-test.true (sym c.is_space.ensures ∙ c.if-is_space.false) c.if-b-eq62.false c.if-b-eq47.false c.if-spaced.false)

pub returns : goal.returns
returns c = stops _ _ _ _ Cut (tag-end c.loop-i.invariant c.loop-i-test.false)
