use mathlib.Core.Path.{sym}
use native.Mathlib.Omega.{arith}
use Rattle.decimal_value.specs.Value.{not_negative}
use Rattle.room.specs.Room.{lent}
use Rattle.valid.specs.Valid.{cdl_holds}
use Rattle.valid.proofs.Laws.{test_at}
use Rattle.valid.proofs.cdl_holds.Goals as goal

pub returns-then-ones : goal.returns-then-ones
unfolding cdl_holds
returns-then-ones c =
    let a = c.args in
    let t = test_at (lent a.coefficients.now a.powers.now) a.at 10 c.requires not_negative 9 (omega arith) c.number_at-saturation.ensures c.not_negative.ensures in
    simp (sym c.slopes_hold-slopes.ensures, sym c.powers_hold-ones.ensures, t) (grind arith)

pub returns-else-ones : goal.returns-else-ones
unfolding cdl_holds
returns-else-ones c = simp (sym c.slopes_hold-slopes.ensures, sym c.powers_hold-ones.ensures) (grind arith)
