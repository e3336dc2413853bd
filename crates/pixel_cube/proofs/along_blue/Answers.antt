use Rattle.std.proofs.Common.{rules}
use Rattle.room.specs.Room.{lent}
use Rattle.pixel_cube.specs.Cube.{corner}
use Rattle.pixel_cube.specs.Table.{entry_at}
use Rattle.pixel_cube.specs.Ways.{blue_way}
use Rattle.pixel_cube.proofs.along_blue.Goals as goal

pub returns : goal.returns
unfolding blue_way
returns c = let a = c.args in c.along.ensures (λ k. entry_at (lent a.coefficients.now a.powers.now) a.at a.n a.component (corner a.i a.j k)) (λ y q. search rules, λ f y q. search rules)
