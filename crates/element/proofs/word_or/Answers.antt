use mathlib.Core.Path.{refl}
use Rattle.element.proofs.Starts.{word-stood, word-differed, word_cut}
use borrow.Author.Rules.{rules}
use Rattle.element.proofs.word_or.Goals as goal

pub returns-in-Ok : goal.returns-in-Ok
returns-in-Ok c = word-stood _ _ _ _ _ _ refl (rw c.in-Ok.is at c.name_or.ensures)

pub returns-in-Err-Fault : goal.returns-in-Err-Fault
returns-in-Err-Fault c = word-differed _ _ _ _ _ _ (rw (rw c.in-Err-Fault.field-0-is at c.in-Err-Fault.is) at c.name_or.ensures)

pub returns-in-Err-Cut : goal.returns-in-Err-Cut
returns-in-Err-Cut c = word_cut _ _ _ _ (rw (rw c.in-Err-Cut.field-0-is at c.in-Err-Cut.is) at c.name_or.ensures)
