use native.Mathlib.Omega.{arith}
use Rattle.xml.proofs.Comments.{comment-start, comment-end, comment-more, comment-dash-end, comment-dash, comment-last}
use Rattle.xml.proofs.comment_body.Goals as goal
use Rattle.xml.proofs.comment_body.Goals.{then-s-i-eq45+else-s-j+else-s-j-eq45, else-s-i-eq45}

pub loop-i-init : goal.loop-i-init
loop-i-init c = comment-start _ _

pub returns-then-s-j : goal.returns-then-s-j
returns-then-s-j c = comment-dash-end _ _ _ c.loop-i.invariant (omega arith) c.if-s-i-eq45.true (omega arith)

pub returns-then-s-j-eq45 : goal.returns-then-s-j-eq45
returns-then-s-j-eq45 c =
    comment-last _ _ _ c.loop-i.invariant (omega arith) c.if-s-i-eq45.true (omega arith) _ c.if-s-j-eq45.true c.byte.ensures

pub loop-i-preserved : goal.loop-i-preserved
loop-i-preserved c = elim c.if-s-i-eq45.branch [
  | then-s-i-eq45+else-s-j+else-s-j-eq45 w ↦ comment-dash _ _ _ c.loop-i.invariant (omega arith) w.if-s-i-eq45.true (omega (arith, w)) w.if-s-j-eq45.false
  | else-s-i-eq45 w ↦ comment-more _ _ _ c.loop-i.invariant (omega arith) w.if-s-i-eq45.false
]

pub returns : goal.returns
returns c = comment-end _ _ _ c.loop-i.invariant (omega arith)
