use Rattle.running.specs.Running.{prepared_as}
use Rattle.running.proofs.prepared.Goals as goal

pub returns-in-Matrix : goal.returns-in-Matrix
unfolding prepared_as
returns-in-Matrix c = simp c.in-Matrix.is

pub returns-in-Lut1d : goal.returns-in-Lut1d
unfolding prepared_as
returns-in-Lut1d c = simp c.in-Lut1d.is

pub returns-in-Range : goal.returns-in-Range
unfolding prepared_as
returns-in-Range c = simp (c.in-Range.is, ← c.range_clamps.ensures) c.prepare_range.ensures

pub returns-in-Cdl : goal.returns-in-Cdl
unfolding prepared_as
returns-in-Cdl c = simp (c.in-Cdl.is, ← c.cdl_clamps.ensures) c.prepare_cdl.ensures

pub returns-in-Lut3d : goal.returns-in-Lut3d
unfolding prepared_as
returns-in-Lut3d c = simp c.in-Lut3d.is

pub returns-in-OneEnd : goal.returns-in-OneEnd
unfolding prepared_as
returns-in-OneEnd c = simp c.in-OneEnd.is c.prepare_one_end.ensures
