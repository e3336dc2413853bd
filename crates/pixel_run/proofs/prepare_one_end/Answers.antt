use Rattle.pixel_run.specs.Prepare.{one_end_from}
use Rattle.pixel_run.proofs.prepare_one_end.Goals as goal

pub returns : goal.returns
unfolding one_end_from
returns c = simp c.number_from.ensures
