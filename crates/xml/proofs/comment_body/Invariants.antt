use Rattle.xml.proofs.Comments.{CommentInv}
use Rattle.xml.proofs.comment_body.Given as goal

abbrev pub invariant-loop-i : goal.invariant-loop-i
invariant-loop-i l = CommentInv l.s l.at l.i
