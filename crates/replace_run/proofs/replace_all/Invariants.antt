use mathlib.Core.Path.{◌≡◌}
use lib.ListN.{length, drop}
use Rattle.room.specs.Room.{lent}
use Rattle.replacing.specs.Code.{look_of}
use Rattle.replace_run.specs.Runs.{calls_from}
use Rattle.replace_run.proofs.Laws.{Going}
use Rattle.replace_run.proofs.replace_all.Given as goal

abbrev pub invariant-loop-i : goal.invariant-loop-i
invariant-loop-i l =
    (length l.numbers ≡ length l.initial.numbers) × (length l.places ≡ length l.initial.places) × (length l.coefficients ≡ length l.initial.coefficients) × (length l.powers ≡ length l.initial.powers)
    × Going (look_of l.initial.l (lent l.initial.coefficients l.initial.powers)) (calls_from 0 l.ks l.marks l.ends l.initial.numbers l.initial.places l.elements) l.initial.numbers l.initial.places
    (look_of l.l (lent l.coefficients l.powers)) (calls_from l.start (drop l.i l.ks) (drop l.i l.marks) (drop l.i l.ends) (drop l.i l.initial.numbers) (drop l.i l.initial.places) l.elements) l.i l.numbers l.places
