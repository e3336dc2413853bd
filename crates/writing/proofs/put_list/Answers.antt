use Rattle.text_out.proofs.Laws.{puts_then}
use Rattle.written_form.proofs.Tail.{head_text, list_text, list-text}
use Rattle.writing.proofs.Answers.{wrote}
use borrow.Author.Rules.{rules}
use Rattle.writing.proofs.put_list.Goals as goal

-- The head, the nodes, the end tag. Assumes nothing.
pub returns : goal.returns
unfolding head_text list_text
returns c =
    rw (← list-text) (wrote (puts_then c.put-a.ensures
    (puts_then c.put-b.ensures (puts_then c.put-c.ensures (puts_then c.put_nodes-d.ensures c.put.ensures)))) (search rules))
