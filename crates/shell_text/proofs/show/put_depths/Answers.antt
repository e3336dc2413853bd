use Rattle.shell_text.specs.Show.{shown_depths}
use Rattle.text_out.proofs.Laws.{puts_then}
use Rattle.shell_text.proofs.show.put_depths.Goals as goal

pub returns : goal.returns
unfolding shown_depths
returns c =
    puts_then c.put-a.ensures
    (puts_then c.put_depth-b.ensures (puts_then c.put-c.ensures (puts_then c.put_depth-d.ensures c.put.ensures)))
