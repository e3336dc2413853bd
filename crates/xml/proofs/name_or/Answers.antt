use Rattle.std.proofs.Common.{◌≡◌}
use Rattle.xml.specs.declared.Stop.TheVariants.{Fault, Cut}
use Rattle.xml.proofs.Entities.{word-stood, word-differed, word-ended}
use Rattle.xml.proofs.name_or.Goals as goal

pub returns-in-Ok : goal.returns-in-Ok
returns-in-Ok c = word-stood _ _ _ _ _ _ c.in-Ok.ensures c.end_or.ensures

pub returns-in-Err-Fault : goal.returns-in-Err-Fault
returns-in-Err-Fault c =
    let q : c.in-Err-Fault.field-0 ≡ Fault c.in-Err-Fault.field-0-0 c.in-Err-Fault.field-0-1 = rw c.in-Err-Fault.is at c.in-Err-Fault.field-0-is in
    word-differed _ _ _ _ _ _ (rw (c.in-Err-Fault.is, q) at c.word-r.ensures)

pub returns-in-Err-Cut : goal.returns-in-Err-Cut
returns-in-Err-Cut c = let q : c.in-Err-Cut.field-0 ≡ Cut = rw c.in-Err-Cut.is at c.in-Err-Cut.field-0-is in word-ended _ _ _ _ (rw (c.in-Err-Cut.is, q) at c.word-r.ensures)
