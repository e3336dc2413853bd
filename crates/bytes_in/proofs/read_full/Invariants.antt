use Rattle.std.proofs.Common.{length, take, ◌-◌, ◌≤◌}
use Rattle.std.specs.Io.KnownBytes.{Consumes}
use Rattle.bytes_in.proofs.read_full.Given as goal

-- The buffer's first bytes are those that the input has lost.
abbrev pub invariant-loop-held : goal.invariant-loop-held
invariant-loop-held g l =
    (l.held ≤ length l.buffer)
    × Consumes (g.R.Read.remaining l.initial.input) (g.R.Read.remaining l.input) (take l.held l.buffer)

abbrev pub decreases-loop-held : goal.decreases-loop-held
decreases-loop-held g l = length l.buffer - l.held
