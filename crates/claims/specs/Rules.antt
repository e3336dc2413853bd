-- The rules of documents 01 and 02 that every accepted list keeps. Each element's own rules are `sound` (shape within the limits, as many numbers as its kind has, each in range and
-- normal, Range's and ASC_CDL's rules on their numbers, the rule of a Range with one end on its depths, and no id or a right one: `id_allowed`, 24 of 02, W-203).
use Rattle.std.specs.Prelude.{◌≡◌, true, List, [], map, ℕ, ◌≤◌, ◌<◌, min, length, get_or}
use Rattle.process_list.specs.List.{Element, most_nodes, most_numbers, node_of, all_numbers, blank_element, first_differs}
use Rattle.valid.specs.Valid.{every, sound}

-- the id of the node of index i, from 0: its bytes, none where it has no id. It is asked of nodes that are there: the default is never taken
abbrev pub id_at : List Element → ℕ → List ℕ
id_at es i = (get_or es i blank_element).id

-- an id 'must be unique among nodes', byte by byte: two nodes of one id are two without any, since 'A node without one stays legal'
abbrev pub Unique : List Element → Type 0
Unique es = (i j : ℕ) → i < j → j < length es → id_at es i ≡ id_at es j → id_at es j ≡ []

-- the rules on a list, for a room of this length
pub record Allowed (room : ℕ) (es : List Element) : Type 0 where
  -- '1 to 32 nodes' (12, 11)
  pub some : 0 < length es
  pub few : length es ≤ most_nodes
  -- 10: no inBitDepth differs from the previous outBitDepth
  pub chained : first_differs (map node_of es) ≡ 0
  -- 23 (02, W-203): an id 'must be unique among nodes'
  pub unique : Unique es
  -- 13: 'At most 262,144 numbers, fewer if the lent room is smaller'
  pub holds : length (all_numbers es) ≤ min room most_numbers
  -- each node's own rules
  pub nodes : every sound es ≡ true
