use Rattle.tags.proofs.Dims.{shape-zero, shape-few, shape-many, shape-none, shape_is}
use Rattle.tags.proofs.shape_of.Goals as goal

pub returns-then-begins_with_zero : goal.returns-then-begins_with_zero
returns-then-begins_with_zero c = shape-zero _ _ c.begins_with_zero.ensures c.if-begins_with_zero.true

pub returns-then-n-lt2 : goal.returns-then-n-lt2
returns-then-n-lt2 c = shape-few _ _ c.digits_of-d.ensures c.if-n-lt2.true

pub returns-then-n-gt65536 : goal.returns-then-n-gt65536
returns-then-n-gt65536 c = shape-many _ _ c.digits_of-d.ensures c.if-n-gt65536.true

pub returns-then-columns-eq0 : goal.returns-then-columns-eq0
returns-then-columns-eq0 c = shape-none _ _ c.digits_of-d.ensures _ c.columns_of-columns.ensures c.if-columns-eq0.true

pub returns : goal.returns
returns c =
    shape_is _ _ c.digits_of-d.ensures _ c.begins_with_zero.ensures c.if-begins_with_zero.false c.if-n-lt2.false c.if-n-gt65536.false _ c.columns_of-columns.ensures c.if-columns-eq0.false
