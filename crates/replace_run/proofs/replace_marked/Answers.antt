use Rattle.replace_run.proofs.Laws.{marked-numbered, marked-plain}
use Rattle.replace_run.proofs.replace_marked.Goals as goal

pub returns-then-mark-lt-NUMBER_LIMIT : goal.returns-then-mark-lt-NUMBER_LIMIT
returns-then-mark-lt-NUMBER_LIMIT c = marked-numbered _ _ _ _ _ _ _ _ c.if-mark-lt-NUMBER_LIMIT.true c.replace_numbered.ensures

pub returns : goal.returns
returns c = marked-plain _ _ _ _ _ _ _ _ c.if-mark-lt-NUMBER_LIMIT.false c.replace.ensures
