use mathlib.Core.Path.{ap, ◌∙◌}
use Rattle.room.specs.Room.{room_length}
use Rattle.check_line.specs.Line.{line_from}
use Rattle.check_line.proofs.Answers.{answer-text}
use Rattle.check_line.proofs.read_line.Goals as goal

-- The room has 4,096 numbers. Assumes nothing.
pub returns : goal.returns
unfolding room_length
returns c = c.answered.ensures ∙ ap line_from (answer-text 4096 _ _ c.read.ensures.answer)
