use borrow.Author.Rules.{rules}
use Rattle.process_list.specs.List.{same_depth}
use Rattle.process_list.proofs.same_depth.Goals as goal

pub returns : goal.returns
unfolding same_depth
returns c = search rules
