use Prim.Native.Nat.{◌<◌, ◌≤◌}
use native.Mathlib.Omega.{arith}
use borrow.Author.Tests.{lt-ltb, le-ltb}
use lib.ListN.{length}
use Rattle.process_list.specs.List.{nodes_of, replaced_at}
use Rattle.process_list.proofs.replaced.Goals as goal

pub returns-then-k-held : goal.returns-then-k-held
unfolding replaced_at
returns-then-k-held c =
    let s = c.args in
    let h : s.k < length (nodes_of s.list) = omega arith in
    simp (lt-ltb _ _ h)

pub returns : goal.returns
unfolding replaced_at
returns c =
    let s = c.args in
    let h : length (nodes_of s.list) ≤ s.k = omega arith in
    simp (le-ltb _ _ h)
