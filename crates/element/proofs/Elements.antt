-- An element, by its start and what stands behind its name. Assumes nothing.
use Rattle.process_list.specs.List.{blank_element, Element}
use mathlib.Core.Path.{◌≡◌, refl, ap, ◌∙◌}
use mathlib.Core.List.{List}
use Prim.Native.Nat.{ℕ}
use native.Mathlib.Omega.{arith}
use Rattle.room.specs.Room.{Room}
use Rattle.grammar.specs.Parse.{Out, Parser, then_out, bind_p, judge_p}
use Rattle.xml.specs.Code.{Inside, Reads, Failed}
use Rattle.xml.specs.CodeLaws.{reads-well, reads-ill, reads-unjudged}
use Rattle.xml.specs.Code.{Scan}
use Rattle.std.specs.Prelude.{Result, Ok, Err}
use Rattle.xml.specs.declared.Stop.{Stop}
use Rattle.xml.specs.declared.Stop.TheVariants.{Fault, Cut}
use Rattle.clf.specs.Nodes.{NodeName, node_fault, node_body, no_node}
use Rattle.nodes.specs.Code.{carried_of}
use Rattle.nodes.specs.declared.CarriedNode.{CarriedNode}
use Rattle.nodes.proofs.Carried.{carried-well}
use Rattle.node_parts.specs.Code.{end_of, NodeReads}
use Rattle.node_parts.specs.Held.{ReadsTo, NodeStored}
use Rattle.node_parts.proofs.Reading.{node-stored}
use Rattle.node_parts.specs.declared.NodeRead.{NodeRead}
use Rattle.look.specs.Replacing.{start, element}

abbrev judged : Parser NodeName
judged = judge_p node_fault start.run

abbrev body : NodeName → Parser Element
body n = (node_body n).run

module _ (s : List ℕ) (base : ℕ) (m : Room) where
  none : (n : NodeName) (x : Stop) → Reads 0 judged (λ e. n) s 0 (Err x) → NodeStored element.run s 0 base (Err x) m m
  unfolding element
  none n (Fault k e) v = record { value = blank_element; reads = record { out = ap (λ (o : Out NodeName). then_out o body) v.out; inside = v.inside }; left = refl }
  none n Cut v = record { value = blank_element; reads = record { out = ap (λ (o : Out NodeName). then_out o body) v.out; inside = tt }; left = refl }

  -- no start
  pub element-none : (n : NodeName) (x : Stop) → Reads 0 start.run (λ e. n) s 0 (Err x) → NodeStored element.run s 0 base (Err x) m m
  element-none n x v = none n x (reads-unjudged start.run (λ e. n) s 0 node_fault 0 0 (Err x) tt v)

  -- the start of a node that is not carried
  pub element-fault : (n : NodeName) (k e : ℕ) → node_fault n ≡ k → (k ≡ 0 → ⊥) → Reads 0 start.run (λ e. n) s 0 (Ok e) → NodeStored element.run s 0 base (Err (Fault k 0)) m m
  element-fault n k e q z v = none n (Fault k 0) (reads-ill start.run (λ e. n) s 0 node_fault 0 0 e k q z v)

-- a carried node
pub element-node : (s : List ℕ) (base : ℕ) (m₀ m₁ : Room) (n : CarriedNode) (e : ℕ) (r : Result NodeRead Stop) → Reads 0 start.run (λ e. carried_of n) s 0 (Ok e)
    → NodeReads (body (carried_of n)) s e base r m₀ m₁ → NodeStored element.run s 0 base r m₀ m₁
unfolding element
element-node s base m₀ m₁ n e r v w =
    let j : Reads 0 judged (λ e. carried_of n) s 0 (Ok e) = reads-well start.run (λ e. carried_of n) s 0 node_fault 0 e (carried-well n) v in
    let t : NodeStored (body (carried_of n)) s e base r m₀ m₁ = node-stored (body (carried_of n)) s e base m₀ m₁ r w in
    record {
      value = t.value;
      reads = record { out = t.reads.out ∙ ap (λ (o : Out NodeName). then_out o body) j.out; inside = later (end_of r) t.reads.inside };
      left = t.left;
    }
  where
    later : (r : Scan) → Inside 1 s e r → Inside 1 s 0 r
    later (Ok q) i = (omega arith, i.1)
    later (Err (Fault k q)) i = (omega arith, i.1)
    later (Err Cut) i = tt
