use mathlib.Core.Path.{◌≡◌, refl, ap}
use mathlib.Core.Bool.{not}
use Prim.Native.Nat.{◌+◌, ◌-◌}
use native.Mathlib.Omega.{arith}
use Rattle.decimal.specs.Decimal.{zero}
use Rattle.room.specs.Room.{lent}
use Rattle.valid.specs.Valid.{carried}
use Rattle.valid.proofs.Laws.{numbers-length, test_in, tested-fails, tested-goes-on, tested-ends}
use Rattle.valid.proofs.all_carried.Goals as goal

pub loop-k-init : goal.loop-k-init
loop-k-init c = let e : c.args.at - c.args.at ≡ 0 = omega arith in rw e (record { left = refl })

pub returns-then-not-is_carried : goal.returns-then-not-is_carried
returns-then-not-is_carried c =
    let a = c.args in
    let m = lent a.coefficients.now a.powers.now in
    tested-fails c.loop-k.invariant zero (omega (arith, numbers-length m a.at a.count c.requires))
    (test_in m a.at a.count c.requires carried c.loop-k.k (omega arith) (omega arith) c.number_at.ensures c.is_carried.ensures) (ap not c.if-not-is_carried.true)

pub loop-k-preserved : goal.loop-k-preserved
loop-k-preserved c =
    let a = c.args in
    let m = lent a.coefficients.now a.powers.now in
    let d : c.loop-k.k + 1 - a.at ≡ c.loop-k.k - a.at + 1 = omega arith in
    rw d (tested-goes-on c.loop-k.invariant zero (omega (arith, numbers-length m a.at a.count c.requires))
    (test_in m a.at a.count c.requires carried c.loop-k.k (omega arith) (omega arith) c.number_at.ensures c.is_carried.ensures) (ap not c.if-not-is_carried.false))

pub returns : goal.returns
returns c =
    let a = c.args in
    tested-ends c.loop-k.invariant (omega (arith, numbers-length (lent a.coefficients.now a.powers.now) a.at a.count c.requires))
