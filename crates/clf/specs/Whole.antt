-- What stands whole in a text before its first fault, or before its end where it has none.
use Rattle.std.specs.Prelude.{cond, List, [], ℕ, ◌-◌, min, length}
use Rattle.process_list.specs.List.{Element, most_nodes}
use Rattle.grammar.specs.Parse.{Out, done, fault, cut}
use Rattle.grammar.specs.Grammar.{whole_items}
use Rattle.xml.specs.Xml.{Tag}
use Rattle.xml.specs.Elements.{Part}
use Rattle.clf.specs.List.{Child, Flags, no_flags, list_item, next_flags, head}
use Rattle.clf.specs.Places.{span_of}
use Rattle.clf.specs.Reading.{nodes_among, place_in, is_numbered}

-- the items of ProcessList that stand whole, each with its bytes, and which of the children that may not repeat are among them
abbrev pub WholeText : Type 0
WholeText = Flags × List (Part Child × List ℕ)

abbrev pub nothing_whole : WholeText
nothing_whole = (no_flags, [])

-- behind the root's start tag; where that is at fault or cut, nothing stands whole
abbrev pub whole_behind : Out Tag → WholeText
whole_behind (done tag r) = cond tag.empty nothing_whole (whole_items list_item next_flags no_flags r)
whole_behind (fault k r) = nothing_whole
whole_behind cut = nothing_whole

unfoldable pub whole_text : List ℕ → WholeText
whole_text s = whole_behind (head.run s)

-- the nodes that stand whole, in file order
abbrev pub whole_nodes : List ℕ → List Element
whole_nodes s = nodes_among (whole_text s).1

-- where the content of ProcessList begins; 0 where its start tag is at fault or cut, since then no node stands whole and no place is asked for
abbrev pub behind_head : List ℕ → Out Tag → ℕ
behind_head s (done tag r) = place_in s r
behind_head s (fault k r) = 0
behind_head s cut = 0

unfoldable pub content_place : List ℕ → ℕ
content_place s = behind_head s (head.run s)

-- where node k, from 1, begins, of those that stand whole, the first 32; 0 where there is none
abbrev pub place_among : ℕ → ℕ → List (Part Child × List ℕ) → ℕ
place_among k at parts = cond (is_numbered k (min most_nodes (length (nodes_among parts)))) (span_of parts (k - 1) at).0 0

unfoldable pub whole_place : ℕ → List ℕ → ℕ
whole_place k s = place_among k (content_place s) (whole_text s).1
