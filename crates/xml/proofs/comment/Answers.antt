use native.Mathlib.Omega.{arith}
use Rattle.xml.proofs.Comments.{comment-cut, comment-blamed}
use Rattle.xml.proofs.comment.Goals as goal

pub returns-then-s-at : goal.returns-then-s-at
returns-then-s-at c = comment-cut _ _ (omega arith)

pub returns : goal.returns
returns c = rw c.blamed.ensures (comment-blamed _ _ _ c.comment_found.ensures)
