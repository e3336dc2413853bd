use mathlib.Core.Path.{sym, ◌∙◌}
use Rattle.tags.proofs.Nodes.{some-depth, text-depth, text-id, text-other}
use Rattle.tags.proofs.node_text_fault.Goals as goal

pub returns-then-either : goal.returns-then-either
returns-then-either c = text-depth _ _ _ _ (sym c.either.ensures ∙ c.if-either.true) (rw (← c.depth_of.ensures, ← some-depth, ← c.is_some.ensures) c.unless.ensures)

pub returns-then-same : goal.returns-then-same
returns-then-same c =
    text-id _ _ _ _ (sym c.either.ensures ∙ c.if-either.false) (sym c.same.ensures ∙ c.if-same.true) (rw (← c.id_right.ensures) c.unless-then-same.ensures)

pub returns : goal.returns
returns c =
    text-other _ 0 _ _ (sym c.either.ensures ∙ c.if-either.false) (sym c.same.ensures ∙ c.if-same.false)
