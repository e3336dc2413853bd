use Rattle.shell_text.specs.Show.{shown_answer}
use Rattle.text_out.proofs.Laws.{puts_then}
use Rattle.shell_text.proofs.show.put_answer.Goals as goal

pub returns : goal.returns
unfolding shown_answer
returns c =
    puts_then c.put_digits-a.ensures (puts_then c.put-b.ensures c.put_digits.ensures)
