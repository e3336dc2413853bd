use Rattle.pixel.specs.OneEndLaws.{stays}
use Rattle.pixel.proofs.stays.Goals as goal

pub returns-in-Minimum : goal.returns-in-Minimum
unfolding stays
returns-in-Minimum c = simp c.in-Minimum.is

pub returns-in-Maximum : goal.returns-in-Maximum
unfolding stays
returns-in-Maximum c = simp c.in-Maximum.is
