use mathlib.Core.Bool.{true, false}
use mathlib.Core.Path.{◌≡◌, sym, ◌∙◌}
use Rattle.process_list.proofs.Laws.{capped-exact}
use Rattle.process_list.specs.List.{total, nodes_of}
use Rattle.room.specs.Room.{lent, room_length}
use Rattle.valid.proofs.Elements.{right-parts, right-few}
use Rattle.valid.specs.Valid.{elements_of, is_valid, list_right}
use Rattle.valid.proofs.valid.Goals as goal

-- past the first test the list is right for the room, and the count of its numbers exact
pub returns-then-not-list_right : goal.returns-then-not-list_right
unfolding is_valid
returns-then-not-list_right c =
    let a = c.args in
    let f : list_right a.list (room_length (lent a.coefficients.now a.powers.now)) ≡ false =
    rw (← c.length-room.ensures) (sym c.list_right.ensures ∙ c.if-not-list_right.true) in
    simp f

pub returns-then-all_sound : goal.returns-then-all_sound
unfolding is_valid elements_of
returns-then-all_sound c =
    let right : list_right c.args.list (room_length (lent c.args.coefficients.now c.args.powers.now)) ≡ true =
    rw (← c.length-room.ensures) (sym c.list_right.ensures ∙ c.if-not-list_right.false) in
    let exact : c.used.result ≡ total (nodes_of c.args.list) = c.used.ensures ∙ capped-exact _ (right-few c.args.list _ (right-parts c.args.list _ right)) in
    let e = rw exact at c.zero_from.ensures in
    let s = rw c.nodes_of.ensures at c.all_sound.ensures in
    simp (right, sym s ∙ c.if-all_sound.true) e

pub returns-else-all_sound : goal.returns-else-all_sound
unfolding is_valid elements_of
returns-else-all_sound c =
    let right : list_right c.args.list (room_length (lent c.args.coefficients.now c.args.powers.now)) ≡ true =
    rw (← c.length-room.ensures) (sym c.list_right.ensures ∙ c.if-not-list_right.false) in
    let s = rw c.nodes_of.ensures at c.all_sound.ensures in
    simp (right, sym s ∙ c.if-all_sound.false, c.if-all_sound.false)
