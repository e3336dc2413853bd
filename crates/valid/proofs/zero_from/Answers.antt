use mathlib.Core.Path.{sym, ◌∙◌}
use Rattle.room.specs.Room.{room_length}
use Rattle.valid.specs.Valid.{zero_from}
use Rattle.valid.proofs.Laws.{rest-zeros}
use Rattle.valid.proofs.zero_from.Goals as goal

pub returns-then-all_are : goal.returns-then-all_are
unfolding zero_from room_length
returns-then-all_are c =
    let a = c.args in
    let n = c.length-room.result in
    let e = c.all_are.ensures ∙ rest-zeros a.coefficients.now a.at n _ c.min-start.ensures in
    let f = c.all_are-then-all_are.ensures ∙ rest-zeros a.powers.now a.at n _ c.min-start.ensures in
    rw (← c.length-room.ensures) (simp (sym e, c.if-all_are.true) f)

pub returns-else-all_are : goal.returns-else-all_are
unfolding zero_from room_length
returns-else-all_are c =
    let a = c.args in
    let n = c.length-room.result in
    let e = c.all_are.ensures ∙ rest-zeros a.coefficients.now a.at n _ c.min-start.ensures in
    rw (← c.length-room.ensures) (simp (sym e, c.if-all_are.false))
