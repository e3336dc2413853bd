use mathlib.Core.Path.{◌≡◌}
use Prim.Native.Nat.{◌<◌, ◌≤◌}
use native.Mathlib.Omega.{arith}
use borrow.Author.Tests.{lt-leb}
use lib.ListN.{length}
use Rattle.process_list.proofs.Laws.{under-capped, capped-under, same_nodes, place-list}
use Rattle.process_list.specs.List.{placed_list, total, nodes_of, most_numbers}
use Rattle.process_list.proofs.placed.Goals as goal

pub returns-then-used-gt-MOST_NUMBERS : goal.returns-then-used-gt-MOST_NUMBERS
unfolding placed_list
returns-then-used-gt-MOST_NUMBERS c =
    let s = c.args in
    let h : most_numbers < total (nodes_of s.list) = under-capped _ _ (omega arith) (omega arith) in
    simp (lt-leb _ _ h)

pub place_nodes-requires : goal.place_nodes-requires
place_nodes-requires c =
    let l = c.args.list in
    let n : length l.nodes ≡ 32 = search arith in
    let few : total (nodes_of l) ≤ most_numbers = capped-under _ _ (omega arith) (omega arith) in
    (omega arith, rw (same_nodes l _ n c.min.ensures) few)

pub returns : goal.returns
returns c =
    let l = c.args.list in
    let n : length l.nodes ≡ 32 = search arith in
    let few : total (nodes_of l) ≤ most_numbers = capped-under _ _ (omega arith) (omega arith) in
    place-list l _ _ n c.min.ensures few c.place_nodes.ensures
