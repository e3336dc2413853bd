use mathlib.Core.Path.{sym}
use native.Mathlib.Omega.{arith}
use Rattle.room.specs.Room.{lent}
use Rattle.valid.specs.Valid.{range_holds}
use Rattle.valid.proofs.Laws.{number_is, number-first}
use Rattle.valid.proofs.range_holds.Goals as goal

pub returns-then-less : goal.returns-then-less
unfolding range_holds
returns-then-less c =
    let a = c.args in
    let m = lent a.coefficients.now a.powers.now in
    let e0 = number-first m a.at 4 c.requires (omega arith) c.number_at-min_in.ensures in
    let e1 = number_is m a.at 4 c.requires 1 (omega arith) c.number_at-max_in.ensures in
    let e2 = number_is m a.at 4 c.requires 2 (omega arith) c.number_at-min_out.ensures in
    let e3 = number_is m a.at 4 c.requires 3 (omega arith) c.number_at-max_out.ensures in
    simp (e0, e1, e2, e3, sym c.less.ensures, c.if-less.true) c.at_most.ensures

pub returns-else-less : goal.returns-else-less
unfolding range_holds
returns-else-less c =
    let a = c.args in
    let m = lent a.coefficients.now a.powers.now in
    let e0 = number-first m a.at 4 c.requires (omega arith) c.number_at-min_in.ensures in
    let e1 = number_is m a.at 4 c.requires 1 (omega arith) c.number_at-max_in.ensures in
    simp (e0, e1, sym c.less.ensures, c.if-less.false)
