use native.Mathlib.Omega.{arith}
use Rattle.decimal_value.specs.Value.{not_negative}
use Rattle.room.specs.Room.{lent}
use Rattle.valid.specs.Valid.{slopes_hold}
use Rattle.valid.proofs.Laws.{test_at, test-first}
use Rattle.valid.proofs.slopes_hold.Goals as goal

pub returns-then-green : goal.returns-then-green
unfolding slopes_hold
returns-then-green c =
    let a = c.args in
    let m = lent a.coefficients.now a.powers.now in
    let t1 = test-first m a.at 10 c.requires not_negative (omega arith) c.number_at.ensures c.not_negative-red.ensures in
    let t2 = test_at m a.at 10 c.requires not_negative 1 (omega arith) c.number_at-2.ensures c.not_negative-green.ensures in
    let t3 = test_at m a.at 10 c.requires not_negative 2 (omega arith) c.number_at-3.ensures c.not_negative-blue.ensures in
    simp (t1, t2, t3) (grind arith)

pub returns-else-green : goal.returns-else-green
unfolding slopes_hold
returns-else-green c =
    let a = c.args in
    let m = lent a.coefficients.now a.powers.now in
    let t1 = test-first m a.at 10 c.requires not_negative (omega arith) c.number_at.ensures c.not_negative-red.ensures in
    let t2 = test_at m a.at 10 c.requires not_negative 1 (omega arith) c.number_at-2.ensures c.not_negative-green.ensures in
    let t3 = test_at m a.at 10 c.requires not_negative 2 (omega arith) c.number_at-3.ensures c.not_negative-blue.ensures in
    simp (t1, t2, t3) (grind arith)
