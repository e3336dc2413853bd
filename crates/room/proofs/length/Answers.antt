use borrow.Author.Rules.{rules}
use Rattle.room.specs.Room.{room_length}
use Rattle.room.proofs.length.Goals as goal

pub returns : goal.returns
unfolding room_length
returns c = search rules
