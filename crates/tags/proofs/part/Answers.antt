use mathlib.Core.Path.{refl}
use Rattle.tags.proofs.Words.{part-got}
use Rattle.tags.proofs.part.Goals as goal

pub returns : goal.returns
returns c = rw c.unwrap_or.ensures (part-got _ _ _ _ _ refl c.get.ensures.lookup.0)
