use native.Mathlib.Omega.{arith}
use Rattle.xml.proofs.Entities.{entity-cut, entity-blamed}
use Rattle.xml.proofs.entity.Goals as goal

pub returns-then-s-at : goal.returns-then-s-at
returns-then-s-at c = entity-cut _ _ (omega arith)

pub returns : goal.returns
returns c = rw c.blamed.ensures (entity-blamed _ _ _ c.entity_found.ensures)
