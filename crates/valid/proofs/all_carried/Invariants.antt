use Prim.Native.Nat.{◌-◌}
use Rattle.room.specs.Room.{lent}
use Rattle.valid.specs.Valid.{carried, numbers_at}
use Rattle.valid.proofs.Laws.{Tested}
use Rattle.valid.proofs.all_carried.Given as goal

abbrev pub invariant-loop-k : goal.invariant-loop-k
invariant-loop-k l = Tested carried (numbers_at (lent l.coefficients l.powers) l.at l.count) 0 (l.k - l.at)
