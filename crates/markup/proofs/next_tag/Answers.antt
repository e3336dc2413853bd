use native.Mathlib.Omega.{arith}
use Rattle.markup.specs.Next.{none, more}
use Rattle.markup.proofs.next_tag.Goals as goal

pub loop-e-init : goal.loop-e-init
loop-e-init c = none

pub loop-e-smaller : goal.loop-e-smaller
loop-e-smaller c = omega (arith, (rw (c.in-Ok-Misc.is, c.in-Ok-Misc.field-0-is) at c.item_at.ensures).inside)

pub loop-e-preserved : goal.loop-e-preserved
loop-e-preserved c = more c.loop-e.invariant (rw (c.in-Ok-Misc.is, c.in-Ok-Misc.field-0-is) at c.item_at.ensures)

pub returns-in-Ok-StartTag : goal.returns-in-Ok-StartTag
returns-in-Ok-StartTag c = record { passed = c.loop-e.invariant; reads = rw (c.in-Ok-StartTag.is, c.in-Ok-StartTag.field-0-is) at c.item_at.ensures }

pub returns-in-Ok-EndTag : goal.returns-in-Ok-EndTag
returns-in-Ok-EndTag c = record { passed = c.loop-e.invariant; reads = rw (c.in-Ok-EndTag.is, c.in-Ok-EndTag.field-0-is) at c.item_at.ensures }

pub returns-in-Err : goal.returns-in-Err
returns-in-Err c = record { passed = c.loop-e.invariant; reads = rw c.in-Err.is at c.item_at.ensures }
