use Rattle.room.specs.Room.{lent}
use Rattle.node_parts.proofs.Smalls.{StoreInv}
use Rattle.node_parts.proofs.store_all.Given as goal

abbrev pub invariant-loop-j : goal.invariant-loop-j
invariant-loop-j l = StoreInv (lent l.small l.small_powers) l.base (lent l.initial.coefficients l.initial.powers) l.j-end l.j (lent l.coefficients l.powers)
