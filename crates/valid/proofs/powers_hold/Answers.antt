use native.Mathlib.Omega.{arith}
use Rattle.decimal_value.specs.Value.{is_one}
use Rattle.room.specs.Room.{lent}
use Rattle.valid.specs.Valid.{powers_hold}
use Rattle.valid.proofs.Laws.{test_at}
use Rattle.valid.proofs.powers_hold.Goals as goal

pub returns-then-green : goal.returns-then-green
unfolding powers_hold
returns-then-green c =
    let a = c.args in
    let m = lent a.coefficients.now a.powers.now in
    let t1 = test_at m a.at 10 c.requires is_one 6 (omega arith) c.number_at.ensures c.is_one-red.ensures in
    let t2 = test_at m a.at 10 c.requires is_one 7 (omega arith) c.number_at-2.ensures c.is_one-green.ensures in
    let t3 = test_at m a.at 10 c.requires is_one 8 (omega arith) c.number_at-3.ensures c.is_one-blue.ensures in
    simp (t1, t2, t3) (grind arith)

pub returns-else-green : goal.returns-else-green
unfolding powers_hold
returns-else-green c =
    let a = c.args in
    let m = lent a.coefficients.now a.powers.now in
    let t1 = test_at m a.at 10 c.requires is_one 6 (omega arith) c.number_at.ensures c.is_one-red.ensures in
    let t2 = test_at m a.at 10 c.requires is_one 7 (omega arith) c.number_at-2.ensures c.is_one-green.ensures in
    let t3 = test_at m a.at 10 c.requires is_one 8 (omega arith) c.number_at-3.ensures c.is_one-blue.ensures in
    simp (t1, t2, t3) (grind arith)
