use mathlib.Core.Path.{sym, ◌∙◌}
use Rattle.reading.proofs.Laws.{list-cleared, list-kept}
use Rattle.reading.proofs.read.Goals as goal

pub returns-then-is_err : goal.returns-then-is_err
returns-then-is_err c =
    list-cleared _ _ _ _ _ _ c.read_list-answer.ensures (sym c.is_err.ensures.value ∙ c.if-is_err.true) c.length-length.ensures c.clear.ensures

pub returns-else-is_err : goal.returns-else-is_err
returns-else-is_err c = list-kept _ _ _ _ c.read_list-answer.ensures (sym c.is_err.ensures.value ∙ c.if-is_err.false)
