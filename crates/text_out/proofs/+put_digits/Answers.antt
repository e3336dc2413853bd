-- The digits of n / 10, then the last.
use Rattle.text_out.proofs.Laws.{puts-digit, puts-last}
use Rattle.text_out.proofs.+put_digits.Goals as goal

pub returns-then-n-lt10 : goal.returns-then-n-lt10
returns-then-n-lt10 t c = puts-digit _ c.if-n-lt10.true c.put_byte.ensures

pub returns : goal.returns
returns t c = puts-last _ c.if-n-lt10.false c.put_digits-held.ensures c.put_byte-2.ensures
