use lib.Dec.{lit≤}
use Rattle.check_line.specs.Line.{too_long}
use Rattle.check_line.proofs.Laws.{line-put}
use borrow.Author.Rules.{rules}
use Rattle.check_line.proofs.too_long.Goals as goal

-- One word. Assumes nothing.
pub returns : goal.returns
unfolding too_long
returns c = line-put _ (lit≤ tt) (search rules) c.put-length.ensures
