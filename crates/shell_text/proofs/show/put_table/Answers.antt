use Rattle.shell_text.specs.Show.{table_text}
use Rattle.text_out.proofs.Laws.{puts_then}
use Rattle.shell_text.proofs.show.put_table.Goals as goal

pub returns : goal.returns
unfolding table_text
returns c =
    puts_then c.put-a.ensures (puts_then c.put_digits-b.ensures (puts_then c.put-c.ensures c.put_digits.ensures))
