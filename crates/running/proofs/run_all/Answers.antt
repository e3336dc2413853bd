use Rattle.std.specs.Prelude.{◌≡◌, List, [], ◌∷◌, ℕ, zero, suc, ◌+◌, ◌<◌, ◌≤◌, length, take, drop, get_or, Float}
use Rattle.std.proofs.Common.{refl, ap, ◌∙◌, arith, rules, drop-cons, drop_of_length-le}
use native.Mathlib.Numerals.{add-one}
use Rattle.process_list.specs.declared.Node.{Node}
use Rattle.process_list.specs.List.{nodes_of}
use Rattle.room.specs.Room.{Room, lent}
use Rattle.running.specs.Running.{run_node, run_nodes}
use Rattle.running.proofs.run_all.Goals as goal

-- one node more; d is what a read behind the end would answer
runs_on : (m : Room) (ns : List Node) (k : ℕ) (d : Node) (xs : List Float) {ys : List Float} → k < length ns → ys ≡ run_node m (get_or ns k d) xs
    → run_nodes m (drop (k + 1) ns) ys ≡ run_nodes m (drop k ns) xs
unfolding run_nodes
runs_on m ns k d xs h e = rw (add-one, drop-cons ns k d h, e) refl

-- no node left
ended : (m : Room) (ns : List Node) (k : ℕ) {xs : List Float} → length ns ≤ k → xs ≡ run_nodes m (drop k ns) xs
unfolding run_nodes
ended m ns k h = rw (drop_of_length-le ns h) refl

-- as many as stand in front are those in front
taken : (n : ℕ) (ns : List Node) → take (length (take n ns)) ns ≡ take n ns
taken zero ns = refl
taken (suc n) [] = refl
taken (suc n) (x ∷ ns) = ap (λ l. x ∷ l) (taken n ns)

pub loop-node-preserved : goal.loop-node-preserved
loop-node-preserved c =
    let a = c.args in (
      search rules,
      runs_on (lent a.coefficients.now a.powers.now) _ c.loop-node.node-index _ c.loop-node.pixels (omega arith) c.run_one.ensures ∙ c.loop-node.invariant.1,
    )

pub returns : goal.returns
unfolding nodes_of
returns c =
    let a = c.args in
    let m = lent a.coefficients.now a.powers.now in
    let held : take c.held-count.result a.list.nodes ≡ take a.list.count a.list.nodes = ap (λ n. take n a.list.nodes) c.held-count.ensures.nodes ∙ taken a.list.count a.list.nodes in
    ended m _ c.loop-node.node-index (omega arith) ∙ c.loop-node.invariant.1 ∙ ap (λ ns. run_nodes m ns a.pixels.now) held
