use mathlib.Core.Path.{◌∙◌}
use borrow.Author.Tests.{eq-eqb}
use Rattle.ids.proofs.Laws.{colon, name-byte}
use Rattle.ids.proofs.is_id_byte.Goals as goal

-- A name byte that is not `:`. Assumes nothing.
pub returns-then-b-ne58 : goal.returns-then-b-ne58
returns-then-b-ne58 c = c.is_name_byte.ensures ∙ name-byte _ c.if-b-ne58.true

pub returns-else-b-ne58 : goal.returns-else-b-ne58
returns-else-b-ne58 c = simp (eq-eqb _ _ c.if-b-ne58.false) (colon _ c.if-b-ne58.false)
