use Rattle.check_line.proofs.Answers.{accepted-answer, refused-answer}
use Rattle.check_line.proofs.put_answer.Goals as goal

pub returns-in-Ok : goal.returns-in-Ok
returns-in-Ok c = rw c.in-Ok.is (accepted-answer c.in-Ok.list _ c.used-numbers.ensures c.put_two.ensures)

pub returns-in-Err : goal.returns-in-Err
returns-in-Err c = rw c.in-Err.is (refused-answer c.in-Err.why c.put_two-in-Err.ensures)
