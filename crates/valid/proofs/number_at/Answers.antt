use borrow.Author.Rules.{rules}
use Rattle.valid.specs.Valid.{decimal_at}
use Rattle.valid.proofs.number_at.Goals as goal

pub returns : goal.returns
unfolding decimal_at
returns c = search rules
