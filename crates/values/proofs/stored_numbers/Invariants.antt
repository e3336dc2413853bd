use Prim.Native.Nat.{◌-◌}
use lib.ListN.{length}
use Rattle.room.specs.Room.{lent}
use Rattle.values.specs.Code.{rule_of}
use Rattle.values.proofs.Loop.{NumbersInv}
use Rattle.values.proofs.stored_numbers.Given as goal

abbrev pub invariant-loop-i : goal.invariant-loop-i
invariant-loop-i l = NumbersInv l.w l.n (rule_of l.rule) l.s l.at l.base (lent l.initial.coefficients l.initial.powers) l.i l.count (lent l.coefficients l.powers)

abbrev pub decreases-loop-i : goal.decreases-loop-i
decreases-loop-i l = length l.s - l.i
