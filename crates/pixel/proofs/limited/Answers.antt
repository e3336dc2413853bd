use Rattle.pixel.specs.OneEndLaws.{limited-by-tests}
use Rattle.pixel.proofs.limited.Goals as goal

pub returns-then-limit : goal.returns-then-limit
returns-then-limit c = rw (← limited-by-tests) (simp c.if-limit.true)

pub returns-then-stays : goal.returns-then-stays
returns-then-stays c = rw (← limited-by-tests, ← c.stays.ensures) (simp (c.if-limit.false, c.if-stays.true))

pub returns : goal.returns
returns c = rw (← limited-by-tests, ← c.stays.ensures) (simp (c.if-limit.false, c.if-stays.false))
