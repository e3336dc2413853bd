use Rattle.replace_run.proofs.Laws.{part-is}
use Rattle.replace_run.proofs.part.Goals as goal

pub returns : goal.returns
returns c = part-is c.args.s.now _ _ _ _ c.min-end.ensures c.min-start.ensures
