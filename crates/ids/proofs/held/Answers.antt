use Rattle.ids.proofs.Laws.{held_is}
use Rattle.ids.proofs.held.Goals as goal

pub returns : goal.returns
returns c = held_is _ _ _ c.min-n.ensures c.copy_from_slice.ensures.after
