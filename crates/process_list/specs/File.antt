-- A list's two parts (document 02, W-208): what a file says of it, and the numbers that are kept with its nodes, 'the number of the newest replacement accepted there', which 'files don't carry'.
-- Definitions only.
use Rattle.std.specs.Prelude.{List, [], ◌∷◌, map, ℕ, ◌^◌}
use Rattle.process_list.specs.declared.Node.{Node}
use Rattle.process_list.specs.declared.ProcessList.{ProcessList}

-- ---- what a file says: a field that no file carries has its value after a reading here, so that lists can be compared by what their files say

-- of a node: kind with style and shape, depths, id, and where its numbers stand; its kept number is left out, that is, 0 as after a reading
abbrev pub file_node : Node → Node
file_node n = record { kind = n.kind; input = n.input; output = n.output; id = n.id; at = n.at; newest = 0 }

-- of a list
unfoldable pub file_list : ProcessList → ProcessList
file_list l = record { count = l.count; nodes = map file_node l.nodes }

-- ---- the kept numbers

-- 'its number whole and below 2^32': the numbers of replacements are below this. In code they are of 32 bits
abbrev pub number_limit : ℕ
number_limit = 2 ^ 32

-- one for each of the list's 32 places, those behind the last node too
unfoldable pub kept_numbers : ProcessList → List ℕ
kept_numbers l = map (λ (n : Node). n.newest) l.nodes

-- a node with this number kept
abbrev pub with_newest : ℕ → Node → Node
with_newest k n = record { kind = n.kind; input = n.input; output = n.output; id = n.id; at = n.at; newest = k }

-- nodes with these numbers kept, one each. A list of 32 places has as many numbers; so that every list has an answer, nodes behind the last number stay as they are
unfoldable pub keeping_nodes : List ℕ → List Node → List Node
keeping_nodes ks [] = []
keeping_nodes [] (n ∷ ns) = n ∷ ns
keeping_nodes (k ∷ ks) (n ∷ ns) = with_newest k n ∷ keeping_nodes ks ns

-- a list with these numbers kept
unfoldable pub keeping : List ℕ → ProcessList → ProcessList
keeping ks l = record { count = l.count; nodes = keeping_nodes ks l.nodes }
