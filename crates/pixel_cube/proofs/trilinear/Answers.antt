use Rattle.std.proofs.Common.{rules, ap}
use Rattle.std.specs.Prelude.{Float}
use Rattle.pixel.specs.declared.CodeValue.{CodeValue}
use Rattle.room.specs.Room.{lent}
use Rattle.pixel_cube.specs.Table.{entry_at}
use Rattle.pixel_cube.specs.Ways.{green_way, red_way}
use Rattle.pixel_cube.proofs.trilinear.Goals as goal

abbrev code : Float → CodeValue
code x = record { 0 = x }

pub returns : goal.returns
unfolding red_way
returns c =
    let a = c.args in
    ap code (c.along.ensures (λ i. green_way (entry_at (lent a.coefficients.now a.powers.now) a.at a.n a.component) a.cell.green a.cell.blue i) (λ y q. search rules, λ f y q. search rules))
