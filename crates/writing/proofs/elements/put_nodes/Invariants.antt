use lib.ListN.{drop}
use Rattle.room.specs.Room.{lent}
use Rattle.valid.specs.Valid.{elements_of}
use Rattle.text_out.specs.Output.{Goes}
use Rattle.written_form.proofs.Tail.{nodes_text}
use Rattle.writing.proofs.elements.put_nodes.Given as goal

-- What is left are the nodes from index node-index on.
abbrev pub invariant-loop-node : goal.invariant-loop-node
invariant-loop-node l = Goes (nodes_text (elements_of l.fn.list (lent l.coefficients l.powers))) (nodes_text (drop l.node-index (elements_of l.fn.list (lent l.coefficients l.powers)))) l.at l.initial.out l.out l.held
