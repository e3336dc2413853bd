use Rattle.std.proofs.Common.{ℕ, sym}
use Rattle.std.proofs.lemmas.List.{length-replicate}
use Rattle.clf_shell.proofs.writes.write.Goals as goal

pub slice_bounds-write_in-end : goal.slice_bounds-write_in-end
slice_bounds-write_in-end c d = sym (length-replicate {A = ℕ} 2097152 0)
