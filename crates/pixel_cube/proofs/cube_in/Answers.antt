use borrow.Author.Tests.{le-leb, lt-leb}
use Rattle.pixel_cube.specs.Table.{cube_in}
use Rattle.pixel_cube.proofs.cube_in.Goals as goal
use Rattle.pixel_cube.proofs.cube_in.Goals.{then-n-lt2-via-then-n-lt2, then-n-lt2-via-else-n-lt2+then-n-gt33}

pub returns-then-n-lt2 : goal.returns-then-n-lt2
unfolding cube_in
returns-then-n-lt2 c = let n = c.args.n in elim c.then-n-lt2.branch [
  | then-n-lt2-via-then-n-lt2 w ↦ simp (lt-leb 2 n w.if-n-lt2.true)
  | then-n-lt2-via-else-n-lt2+then-n-gt33 w ↦ simp (le-leb 2 n w.if-n-lt2.false, lt-leb n 33 w.if-n-gt33.true)
]

pub returns : goal.returns
unfolding cube_in
returns c =
    let n = c.args.n in
    simp (le-leb 2 n c.if-n-lt2.false, le-leb n 33 c.if-n-gt33.false) c.fits.ensures
