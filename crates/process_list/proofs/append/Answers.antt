use borrow.Author.Tests.{lt-ltb, le-ltb}
use Rattle.process_list.specs.List.{appended}
use Rattle.process_list.proofs.append.Goals as goal

pub returns-then-at-lt32 : goal.returns-then-at-lt32
unfolding appended
returns-then-at-lt32 c = simp (lt-ltb _ _ c.if-at-lt32.true)

pub returns : goal.returns
unfolding appended
returns c = simp (le-ltb _ _ c.if-at-lt32.false)
