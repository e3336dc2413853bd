use Prim.Native.Nat.{◌+◌, ◌-◌, ◌≤◌}
use Rattle.room.specs.Room.{lent}
use Rattle.valid.specs.Valid.{numbers_at}
use Rattle.text_out.specs.Output.{Goes}
use Rattle.written_form.proofs.Tail.{spaced_text}
use Rattle.writing.proofs.numbers.put_spaced.Given as goal

abbrev pub invariant-loop-i : goal.invariant-loop-i
invariant-loop-i l =
    (l.i ≤ l.count)
    × Goes (spaced_text (numbers_at (lent l.coefficients l.powers) l.from l.count)) (spaced_text (numbers_at (lent l.coefficients l.powers) (l.from + l.i) (l.count - l.i))) l.at l.initial.out l.out l.held

abbrev pub decreases-loop-i : goal.decreases-loop-i
decreases-loop-i l = l.count - l.i
