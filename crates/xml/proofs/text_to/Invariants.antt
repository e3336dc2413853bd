use Prim.Native.Nat.{◌-◌}
use lib.ListN.{length}
use lib.Dec.{eqb}
use Rattle.xml.proofs.Texts.{TextInv}
use Rattle.xml.proofs.text_to.Given as goal

abbrev pub invariant-loop-i : goal.invariant-loop-i
invariant-loop-i l = TextInv (λ b. eqb b l.stop) l.s l.at l.i

abbrev pub decreases-loop-i : goal.decreases-loop-i
decreases-loop-i l = length l.s - l.i
