use native.Mathlib.Omega.{arith}
use Rattle.tags.proofs.Cubes.{dim-short, dim-long}
use Rattle.tags.proofs.is_cube_dim.Goals as goal

pub returns-then-n-lt10 : goal.returns-then-n-lt10
returns-then-n-lt10 c = rw (dim-short _ c.if-n-lt10.true) c.same.ensures

pub returns : goal.returns
returns c = rw (dim-long _ c.if-n-lt10.false (omega arith)) c.same-2.ensures
