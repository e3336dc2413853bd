use Rattle.pixel_run.specs.Prepare.{cdl_from}
use Rattle.pixel_run.proofs.prepare_cdl.Goals as goal

pub returns : goal.returns
unfolding cdl_from
returns c =
    simp (
      c.number_from.ensures,
      c.number_from-2.ensures,
      c.number_from-3.ensures,
      c.number_from-4.ensures,
      c.number_from-5.ensures,
      c.number_from-6.ensures,
      c.number_from-7.ensures,
      c.number_from-8.ensures,
      c.number_from-9.ensures,
      c.number_from-10.ensures,
    )
