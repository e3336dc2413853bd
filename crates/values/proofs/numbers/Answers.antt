use Rattle.values.proofs.Stored.{numbers-cleared}
use Rattle.values.proofs.numbers.Goals as goal

pub returns-then-is_err : goal.returns-then-is_err
returns-then-is_err c = numbers-cleared _ _ _ _ _ _ _ _ _ c.if-is_err.ensures.value c.stored_numbers-r.ensures c.clear_from.ensures
