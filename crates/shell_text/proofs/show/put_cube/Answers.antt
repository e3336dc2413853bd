use Rattle.shell_text.specs.Show.{cube_text}
use Rattle.text_out.proofs.Laws.{puts_then}
use Rattle.shell_text.proofs.show.put_cube.Goals as goal

pub returns : goal.returns
unfolding cube_text
returns c =
    puts_then c.put_digits-a.ensures
    (puts_then c.put-b.ensures
    (puts_then c.put_digits-c.ensures (puts_then c.put-d.ensures (puts_then c.put_digits-e.ensures c.put.ensures))))
