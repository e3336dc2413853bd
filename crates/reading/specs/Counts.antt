-- How many nodes and numbers a reading has (document 01, List); none where it is refused.
use Rattle.std.specs.Prelude.{map, ℕ, length}
use Rattle.process_list.specs.List.{node_of, total}
use Rattle.clf.specs.Reading.{Reading, nodes_in}

abbrev pub node_count : Reading → ℕ
node_count r = length (nodes_in r)

-- the numbers of all nodes, by their kinds (`numbers_of`)
abbrev pub number_count : Reading → ℕ
number_count r = total (map node_of (nodes_in r))
