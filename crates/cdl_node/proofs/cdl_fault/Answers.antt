use mathlib.Core.Path.{◌≡◌, refl, ◌∙◌}
use mathlib.Core.Bool.{Bool, true, false, cond, not}
use Prim.Native.Nat.{ℕ}
use Rattle.cdl_node.specs.Code.{cdl_fault_of}
use Rattle.cdl_node.proofs.cdl_fault.Goals as goal

turned : (b : Bool) → ◌≡◌ {A = ℕ} (cond (not b) 0 5) (cond b 5 0)
turned true = refl
turned false = refl

pub returns-then-same : goal.returns-then-same
unfolding cdl_fault_of
returns-then-same c = rw (← c.same.ensures, c.if-same.true) c.cdl_late.ensures

pub returns-then-same-2 : goal.returns-then-same-2
unfolding cdl_fault_of
returns-then-same-2 c = rw (← c.same.ensures, c.if-same.false, ← c.same-else-same.ensures, c.if-same-2.true) c.cdl_late-then-same-2.ensures

pub returns-then-same-3 : goal.returns-then-same-3
unfolding cdl_fault_of
returns-then-same-3 c =
    rw (← c.same.ensures, c.if-same.false, ← c.same-else-same.ensures, c.if-same-2.false, ← c.same-else-same-2.ensures, c.if-same-3.true) (c.unless.ensures ∙ turned c.args.sat)

pub returns-else-same-3 : goal.returns-else-same-3
unfolding cdl_fault_of
returns-else-same-3 c =
    rw (← c.same.ensures, c.if-same.false, ← c.same-else-same.ensures, c.if-same-2.false, ← c.same-else-same-2.ensures, c.if-same-3.false)
