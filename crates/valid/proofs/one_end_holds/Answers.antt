use native.Mathlib.Omega.{arith}
use Rattle.room.specs.Room.{lent}
use Rattle.valid.proofs.Laws.{number_is, number-first}
use Rattle.valid.specs.Valid.{one_end_holds}
use Rattle.valid.proofs.one_end_holds.Goals as goal

pub returns : goal.returns
unfolding one_end_holds
returns c =
    let a = c.args in
    let m = lent a.coefficients.now a.powers.now in
    let e0 = number-first m a.at 2 c.requires (omega arith) c.number_at-value_in.ensures in
    let e1 = number_is m a.at 2 c.requires 1 (omega arith) c.number_at-value_out.ensures in
    simp (e0, e1) c.equal.ensures
