use Rattle.xml.proofs.Words.{WordInv}
use Rattle.xml.proofs.word.Given as goal

abbrev pub invariant-loop-b : goal.invariant-loop-b
invariant-loop-b l = WordInv l.s l.fn.at l.w l.k l.i l.b-index
