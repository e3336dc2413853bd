-- What the answers of the code mean.
use Rattle.std.specs.Prelude.{◌≡◌, List, ℕ, Result, Ok, Err}
use Rattle.grammar.specs.Parse.{Out, Parser}
use Rattle.xml.specs.Among.{name_or}
use Rattle.xml.specs.Code.{Scan, scan_out, Inside, Reads}
use Rattle.xml.specs.declared.Stop.{Stop}
use Rattle.clf.specs.Nodes.{NodeName, no_node}
use Rattle.nodes.specs.Code.{name_of}
use Rattle.nodes.specs.declared.NodeName as Code

-- how the start of an element reads: the place behind it and the node that it names, or why there is none
abbrev pub Start : Type 0
Start = Result (ℕ × Code.NodeName) Stop

abbrev pub start_end : Start → Scan
start_end (Ok r) = Ok r.0
start_end (Err x) = Err x

-- a start that is none names no node
abbrev pub start_name : Start → NodeName
start_name (Ok r) = name_of r.1
start_name (Err x) = no_node

-- a start, as a grammar's answer: its value is the node that it names
abbrev pub start_out : List ℕ → Start → Out NodeName
start_out s r = scan_out (λ e. start_name r) s (start_end r)

-- the answer r is that of the word w, which stands for n, against the bytes; where they differ it is that of `other`
pub record StartOr (s : List ℕ) (n : NodeName) (w : List ℕ) (other r : Start) : Type 0 where
  pub out : start_out s r ≡ name_or n (start_out s other) w s
  pub inside : Inside 0 s 0 (start_end other) → Inside 0 s 0 (start_end r)

-- a start read from the first byte on: the answer is p's
abbrev pub StartReads : Parser NodeName → List ℕ → Start → Type 0
StartReads p s r = Reads 0 p (λ e. start_name r) s 0 (start_end r)
