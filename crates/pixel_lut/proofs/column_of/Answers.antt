use Rattle.pixel_lut.specs.Table.{column_of}
use Rattle.std.proofs.Common.{eq-eqb, ne_eqb}
use Rattle.pixel_lut.proofs.column_of.Goals as goal

pub returns-then-columns-eq3 : goal.returns-then-columns-eq3
unfolding column_of
returns-then-columns-eq3 c = simp (eq-eqb _ _ c.if-columns-eq3.true)

pub returns : goal.returns
unfolding column_of
returns c = simp (ne_eqb _ _ c.if-columns-eq3.false)
