use Rattle.std.proofs.Common.{rules}
use Rattle.room.specs.Room.{lent}
use Rattle.pixel_cube.specs.Table.{entry_at}
use Rattle.pixel_cube.specs.Ways.{blue_way, green_way}
use Rattle.pixel_cube.proofs.along_green.Goals as goal

pub returns : goal.returns
unfolding green_way
returns c = let a = c.args in c.along.ensures (λ j. blue_way (entry_at (lent a.coefficients.now a.powers.now) a.at a.n a.component) a.blue a.i j) (λ y q. search rules, λ f y q. search rules)
