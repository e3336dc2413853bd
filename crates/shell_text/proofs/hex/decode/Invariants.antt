use lib.ListN.{length}
use Prim.Native.Nat.{◌+◌, ◌≤◌}
use Rattle.shell_text.proofs.Laws.{Passed}
use Rattle.shell_text.proofs.hex.decode.Given as goal

abbrev pub invariant-loop-i : goal.invariant-loop-i
invariant-loop-i l = (l.half + l.half ≤ length l.initial.word) × (length l.initial.word ≤ l.half + l.half + 1) × Passed l.initial.word l.word l.i
