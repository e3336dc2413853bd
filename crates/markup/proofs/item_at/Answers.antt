use mathlib.Core.Path.{sym, ◌∙◌}
use native.Mathlib.Omega.{arith}
use Rattle.markup.proofs.ItemLaws.{mapped, item-cut, item-space, markup-item, item-and, item-bare}
use Rattle.markup.specs.declared.Item.TheVariants.{Misc}
use Rattle.markup.proofs.item_at.Goals as goal

pub returns-then-s-at : goal.returns-then-s-at
returns-then-s-at c = item-cut _ _ (omega arith)

pub returns-then-is_space : goal.returns-then-is_space
returns-then-is_space c = item-space _ _ (omega arith) (sym c.is_space.ensures ∙ c.if-is_space.true)

pub returns-then-b-eq60 : goal.returns-then-b-eq60
returns-then-b-eq60 c = markup-item _ _ (omega arith) (sym c.is_space.ensures ∙ c.if-is_space.false) _ c.if-b-eq60.true c.markup_item.ensures

pub returns-then-b-eq38 : goal.returns-then-b-eq38
returns-then-b-eq38 c =
    rw (mapped Misc _ _ c.map.ensures.cases, c.settled.ensures)
    (item-and _ _ (omega arith) (sym c.is_space.ensures ∙ c.if-is_space.false) c.if-b-eq60.false c.entity.result c.if-b-eq38.true
    c.entity.ensures)

pub returns : goal.returns
returns c = item-bare _ _ (omega arith) (sym c.is_space.ensures ∙ c.if-is_space.false) c.if-b-eq60.false c.if-b-eq38.false
