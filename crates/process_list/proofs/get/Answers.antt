use mathlib.Core.Path.{sym, ◌∙◌}
use Prim.Native.Nat.{◌<◌, ◌≤◌}
use native.Mathlib.Omega.{arith}
use lib.Seq.{get_or-take}
use lib.ListN.{length, get_or-eq_default}
use Rattle.process_list.specs.List.{blank_node, node_at, nodes_of}
use Rattle.process_list.proofs.Maps.{getD-within}
use Rattle.process_list.proofs.get.Goals as goal

pub returns-then-k-held : goal.returns-then-k-held
unfolding node_at nodes_of
returns-then-k-held c =
    let s = c.args in
    let h : s.k < s.list.count = omega arith in
    getD-within s.list.nodes s.k _ blank_node (omega arith) ∙ sym (get_or-take _ _ _ _ h)

pub returns : goal.returns
unfolding node_at
returns c =
    let s = c.args in
    let h : length (nodes_of s.list) ≤ s.k = omega arith in
    c.blank.ensures ∙ sym (get_or-eq_default (nodes_of s.list) blank_node h)
