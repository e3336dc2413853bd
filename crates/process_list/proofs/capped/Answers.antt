use borrow.Author.Rules.{rules}
use Rattle.process_list.specs.List.{capped}
use Rattle.process_list.proofs.capped.Goals as goal

pub returns : goal.returns
unfolding capped
returns c = search rules
