use mathlib.Core.Path.{◌∙◌}
use Rattle.ids.proofs.Laws.{same-pointwise}
use Rattle.ids.proofs.is_same.Goals as goal

pub returns : goal.returns
returns c = c.eq.ensures ∙ same-pointwise _ _
