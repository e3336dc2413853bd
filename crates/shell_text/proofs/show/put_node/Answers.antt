use mathlib.Core.Path.{◌≡◌, sym}
use lib.ListN.{length}
use Rattle.shell_text.specs.Show.{shown_node}
use Rattle.text_out.proofs.Laws.{puts_then}
use borrow.Author.Rules.{rules}
use Rattle.shell_text.proofs.show.put_node.Goals as goal

-- the places of the id
pub slice_bounds-put_id-end : goal.slice_bounds-put_id-end
slice_bounds-put_id-end c = let places : length c.args.node.id ≡ 32 = search rules in sym places

pub returns : goal.returns
unfolding shown_node
returns c =
    puts_then c.put-a.ensures
    (puts_then c.put_name-b.ensures
    (puts_then c.put_depths-c.ensures
    (puts_then c.put_form-d.ensures
    (puts_then c.put-e.ensures (puts_then c.put_place-f.ensures (puts_then c.put-g.ensures c.put_id.ensures))))))
