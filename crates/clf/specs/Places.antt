-- Where the nodes of a file stand (document 01, Demand 3's file: 'node k's .. from `<` to last `>`').
use Rattle.std.specs.Prelude.{List, [], ◌∷◌, ℕ, zero, suc, ◌+◌, length}
use Rattle.grammar.specs.Parse.{Out, done, fault, cut}
use Rattle.xml.specs.Elements.{Part, misc, child, close}
use Rattle.clf.specs.List.{Child, node, description, input_descriptor, output_descriptor, info_child, Document, document}

-- where node k, from 0, stands among items that start at `at`: its first byte's place, and how many bytes it has
abbrev pub span_node : ℕ → ℕ → List ℕ → (ℕ → ℕ × ℕ) → ℕ × ℕ
span_node zero at c later = (at, length c)
span_node (suc k) at c later = later k

abbrev pub span_child : Child → ℕ → ℕ → List ℕ → (ℕ → ℕ × ℕ) → ℕ × ℕ
span_child (node n) k at c later = span_node k at c later
span_child description k at c later = later k
span_child input_descriptor k at c later = later k
span_child output_descriptor k at c later = later k
span_child info_child k at c later = later k

abbrev pub span_part : Part Child → ℕ → ℕ → List ℕ → (ℕ → ℕ × ℕ) → ℕ × ℕ
span_part misc k at c later = later k
span_part (child x) k at c later = span_child x k at c later
span_part close k at c later = later k

unfoldable pub span_of : List (Part Child × List ℕ) → ℕ → ℕ → ℕ × ℕ
span_of [] k at = (at, 0)
span_of (x ∷ l) k at = span_part x.0 k at x.1 (λ j. span_of l j (at + length x.1))

-- where node k, from 0, stands in a file; the empty span at 0 where the text is at fault or cut, of which nothing is asked
abbrev pub span_document : ℕ → Out Document → ℕ × ℕ
span_document k (done d r) = span_of d.parts k (length d.start)
span_document k (fault j r) = (0, 0)
span_document k cut = (0, 0)

unfoldable pub node_span : List ℕ → ℕ → ℕ × ℕ
node_span s k = span_document k (document.run s)
