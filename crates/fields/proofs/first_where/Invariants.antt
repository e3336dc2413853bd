use mathlib.Core.Bool.{false}
use Prim.Native.Nat.{ℕ, ◌≤◌, ◌<◌}
use lib.ListN.{length, get_or}
use Rattle.fields.proofs.first_where.Given as goal

abbrev pub invariant-loop-i : goal.invariant-loop-i
invariant-loop-i g l = (l.at ≤ l.i) × ((k : ℕ) → l.at ≤ k → k < l.i → k < length l.line → goal.F-post g l.test (get_or l.line k 0) false)
