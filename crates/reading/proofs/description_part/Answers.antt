use Rattle.reading.proofs.Laws.{part-refused, part-found}
use Rattle.reading.proofs.description_part.Goals as goal

pub returns-in-Ok : goal.returns-in-Ok
returns-in-Ok c = part-found _ _ _ _ c.in-Ok.ensures c.text_part.ensures

pub returns-in-Err : goal.returns-in-Err
returns-in-Err c = part-refused _ _ _ _ c.in-Err.ensures c.no_part.ensures
