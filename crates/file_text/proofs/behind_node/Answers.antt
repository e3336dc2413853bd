use Rattle.file_text.specs.Code.{behind_node, is_over}
use borrow.Author.Tests.{lt-ltb, le-leb, lt-leb}
use borrow.Author.Rules.{rules}
use Rattle.file_text.proofs.behind_node.Goals as goal
use Rattle.file_text.proofs.behind_node.Goals.{then-progress, else-progress}

pub returns : goal.returns
unfolding behind_node is_over
returns c =
    rw (c.counted.ensures, c.wanted_start.ensures)
    (elim c.if-progress.branch [ then-progress w ↦ rw (w.result-is, w.if-progress.true) | else-progress w ↦ rw (w.result-is, w.if-progress.false) ])
