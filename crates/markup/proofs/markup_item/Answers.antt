use native.Mathlib.Omega.{arith}
use Rattle.markup.proofs.ItemLaws.{mapped, markup-cut, markup-end, markup-comment, markup-question, markup-open}
use Rattle.markup.specs.declared.Item.TheVariants.{Misc, StartTag}
use Rattle.markup.proofs.markup_item.Goals as goal

pub returns-then-s-next : goal.returns-then-s-next
returns-then-s-next c = markup-cut _ _ (omega arith) (omega arith)

pub returns-then-b-eq47 : goal.returns-then-b-eq47
returns-then-b-eq47 c = markup-end _ _ (omega arith) c.if-b-eq47.true

pub returns-then-b-eq33 : goal.returns-then-b-eq33
returns-then-b-eq33 c =
    rw (mapped Misc _ _ c.map.ensures.cases) (markup-comment _ _ (omega arith) c.if-b-eq47.false c.comment.result c.if-b-eq33.true c.comment.ensures)

pub returns-then-b-eq63 : goal.returns-then-b-eq63
returns-then-b-eq63 c = markup-question _ _ (omega arith) c.if-b-eq47.false c.if-b-eq33.false c.if-b-eq63.true

pub returns : goal.returns
returns c =
    rw (mapped StartTag _ _ c.map-2.ensures.cases) (markup-open _ _ (omega arith) c.if-b-eq47.false c.if-b-eq33.false c.open_name.result c.if-b-eq63.false c.open_name.ensures)
