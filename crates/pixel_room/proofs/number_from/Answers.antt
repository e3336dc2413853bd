use Rattle.std.proofs.Common.{◌+◌, ◌≤◌, sym, arith}
use Rattle.room.specs.Room.{lent, room_length}
use Rattle.pixel_room.specs.RoomLaws.{number_past}
use Rattle.pixel_room.proofs.number_from.Goals as goal
use Rattle.pixel_room.proofs.number_from.Goals.{then-at-count-via-then-at-count, then-at-count-via-else-at-count+then-k-count}

pub returns-then-at-count : goal.returns-then-at-count
returns-then-at-count c =
    let a = c.args in
    let m = lent a.coefficients.now a.powers.now in
    let past : room_length m ≤ a.at + a.k = elim c.then-at-count.branch [
      | then-at-count-via-then-at-count w ↦ omega (arith, c.length-count.ensures, w.if-at-count.true)
      | then-at-count-via-else-at-count+then-k-count w ↦ omega (arith, c.length-count.ensures, w.if-at-count.false, w.if-k-count.true)
    ] in
    sym (number_past m (a.at + a.k) past)
