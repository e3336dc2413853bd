-- The measure of the two functions: what is left of the bytes, twice, and one more for a content.
use Prim.Native.Nat.{◌+◌, ◌-◌, ◌*◌}
use lib.ListN.{length}
use Rattle.xml.specs.Elements.{info_element}
use Rattle.info.proofs.Contents.{ContentInv}
use Rattle.info.proofs.+content_element.Given as goal

abbrev pub decreases-content : goal.decreases-content
decreases-content l = 2 * (length l.s.now - l.at) + 1

abbrev pub decreases-element : goal.decreases-element
decreases-element l = 2 * (length l.s.now - l.at)

abbrev pub invariant-content-loop-i : goal.invariant-content-loop-i
invariant-content-loop-i l = ContentInv (info_element l.left) l.w l.s l.at l.i

abbrev pub decreases-content-loop-i : goal.decreases-content-loop-i
decreases-content-loop-i l = length l.s - l.i
