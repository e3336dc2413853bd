use Rattle.file_text.specs.Code.{wanted_start}
use borrow.Author.Tests.{lt-ltb, le-ltb, eq-eqb, ne_eqb}
use borrow.Author.Rules.{rules}
use Rattle.file_text.proofs.wanted_start.Goals as goal
use Rattle.file_text.proofs.wanted_start.Goals.{else-count-lt32-via-then-count-lt32+else-count-wanted, else-count-lt32-via-else-count-lt32}

pub returns-then-count-wanted : goal.returns-then-count-wanted
unfolding wanted_start
returns-then-count-wanted c = rw (lt-ltb _ _ c.if-count-lt32.true, eq-eqb _ _ c.if-count-wanted.true)

pub returns-else-count-lt32 : goal.returns-else-count-lt32
unfolding wanted_start
returns-else-count-lt32 c =
    elim c.else-count-lt32.branch [
      | else-count-lt32-via-then-count-lt32+else-count-wanted w ↦ rw (lt-ltb _ _ w.if-count-lt32.true, ne_eqb _ _ w.if-count-wanted.false)
      | else-count-lt32-via-else-count-lt32 w ↦ rw (le-ltb _ _ w.if-count-lt32.false)
    ]
