use Rattle.process_list.specs.List.{capped, numbers_of}
use Rattle.process_list.proofs.numbers_of.Goals as goal

pub returns-then-wide : goal.returns-then-wide
unfolding capped numbers_of
returns-then-wide c = simp (c.in-Matrix.is, c.if-wide.true)

pub returns-else-wide : goal.returns-else-wide
unfolding capped numbers_of
returns-else-wide c = simp (c.in-Matrix.is, c.if-wide.false)

pub returns-in-Lut1d : goal.returns-in-Lut1d
unfolding numbers_of
returns-in-Lut1d c = simp c.in-Lut1d.is c.table_numbers.ensures

pub returns-in-Range : goal.returns-in-Range
unfolding capped numbers_of
returns-in-Range c = simp c.in-Range.is

pub returns-in-Cdl : goal.returns-in-Cdl
unfolding capped numbers_of
returns-in-Cdl c = simp c.in-Cdl.is

pub returns-in-Lut3d : goal.returns-in-Lut3d
unfolding numbers_of
returns-in-Lut3d c = simp c.in-Lut3d.is c.cube_numbers.ensures

pub returns-in-OneEnd : goal.returns-in-OneEnd
unfolding capped numbers_of
returns-in-OneEnd c = simp c.in-OneEnd.is
