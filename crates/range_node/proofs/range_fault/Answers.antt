use mathlib.Core.Path.{◌≡◌, refl, sym, ◌∙◌}
use mathlib.Core.Bool.{Bool, true, false, cond, not}
use borrow.Author.Tests.{le-leb, le-ltb, lt-ltb}
use Prim.Native.Nat.{ℕ}
use Rattle.range_node.specs.Code.{range_fault_of}
use Rattle.range_node.proofs.range_fault.Goals as goal
use Rattle.range_node.proofs.range_fault.Goals.{then-k-ge4, else-k-ge4}

turned : (b : Bool) → ◌≡◌ {A = ℕ} (cond (not b) 0 5) (cond b 5 0)
turned true = refl
turned false = refl

pub returns-then-same : goal.returns-then-same
unfolding range_fault_of
returns-then-same c = rw (← c.same.ensures, c.if-same.true, ← c.range_any.ensures) (c.unless.ensures ∙ turned c.range_any.result)

pub returns-then-found-k : goal.returns-then-found-k
unfolding range_fault_of
returns-then-found-k c = elim c.if-k-ge4.branch [
  | then-k-ge4 w ↦ rw (← c.same.ensures, c.if-same.false, ← c.range_index-k.ensures, le-ltb _ _ w.if-k-ge4.true)
  | else-k-ge4 w ↦ rw (← c.same.ensures, c.if-same.false, ← c.range_index-k.ensures, lt-ltb _ _ w.if-k-ge4.false, ← w.value-is, c.if-found-k.true)
]

pub returns-else-found-k : goal.returns-else-found-k
unfolding range_fault_of
returns-else-found-k c = elim c.if-k-ge4.branch [
  | then-k-ge4 w ↦ let q : true ≡ false = sym (le-leb 4 _ w.if-k-ge4.true) ∙ sym w.value-is ∙ c.if-found-k.false in absurd cc
  | else-k-ge4 w ↦ rw (← c.same.ensures, c.if-same.false, ← c.range_index-k.ensures, lt-ltb _ _ w.if-k-ge4.false, ← w.value-is, c.if-found-k.false)
]
