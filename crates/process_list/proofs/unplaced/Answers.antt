use borrow.Author.Rules.{rules}
use Rattle.process_list.specs.List.{unplaced}
use Rattle.process_list.proofs.unplaced.Goals as goal

pub returns : goal.returns
unfolding unplaced
returns c = search rules
