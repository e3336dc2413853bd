use borrow.Author.Rules.{rules}
use Rattle.ids.specs.Ids.{no_id, held_id}
use Rattle.ids.proofs.none.Goals as goal

pub returns : goal.returns
unfolding no_id held_id
returns c = search rules
