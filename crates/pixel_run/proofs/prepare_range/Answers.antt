use Rattle.pixel_run.specs.Prepare.{range_from}
use Rattle.pixel_run.proofs.prepare_range.Goals as goal

pub returns : goal.returns
unfolding range_from
returns c = simp (c.number_from.ensures, c.number_from-2.ensures, c.number_from-3.ensures, c.number_from-4.ensures)
