use Rattle.tags.proofs.Cubes.{points-few, points-many, points-is, points_none}
use Rattle.tags.proofs.points_of.Goals as goal

pub returns-then-n-lt2 : goal.returns-then-n-lt2
returns-then-n-lt2 c = points-few _ _ c.digits_of-d.ensures c.if-n-lt2.true

pub returns-then-n-gt33 : goal.returns-then-n-gt33
returns-then-n-gt33 c = points-many _ _ c.digits_of-d.ensures c.if-n-gt33.true

pub returns-then-is_cube_dim : goal.returns-then-is_cube_dim
returns-then-is_cube_dim c =
    points-is _ _ c.digits_of-d.ensures c.if-n-lt2.false c.if-n-gt33.false _ c.is_cube_dim.ensures c.if-is_cube_dim.true

pub returns : goal.returns
returns c =
    points_none _ _ c.digits_of-d.ensures c.if-n-lt2.false c.if-n-gt33.false _ c.is_cube_dim.ensures c.if-is_cube_dim.false
