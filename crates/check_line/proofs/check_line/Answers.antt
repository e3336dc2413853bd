use Rattle.check_line.proofs.Answers.{long-input, fit-input}
use Rattle.check_line.proofs.check_line.Goals as goal

-- By the length. Assumes nothing.
pub returns-then-input-gt65536 : goal.returns-then-input-gt65536
returns-then-input-gt65536 c = long-input _ _ c.if-input-gt65536.true c.too_long.ensures

pub returns : goal.returns
returns c = fit-input _ _ c.if-input-gt65536.false c.read_line.ensures
