-- A node's Description (document 01, Description and player): 'The first Description inside node k comes back as the very part of the caller's file between its tags'.
use Rattle.std.specs.Prelude.{Bool, true, false, cond, not, List, [], ℕ, ◌-◌, length, take, drop}
use Rattle.grammar.specs.Parse.{Out, done, fault, cut, Turn, again, last}
use Rattle.grammar.specs.Grammar.{G, ret, seq, loop, ◌>>=◌}
use Rattle.xml.specs.Bytes.{bytes, same, less_than}
use Rattle.xml.specs.Xml.{text_to, Tag, plain, start_tag, open_name, stray_end}
use Rattle.xml.specs.Elements.{Part, misc, child, close, between}
use Rattle.clf.specs.Places.{node_span}
use Rattle.clf.specs.Reading.{Reading, accepted, faulty, unfit, place_in, description_asked}

-- 'Descriptions come first in it', so the first one inside a node is its first child: behind white space and comments alone

-- white space and comments are passed; an end tag is 2 for `stray_end`, so that `close` is never taken: a node without a child ends in a fault here, and has no Description
abbrev pub to_first : Part (List ℕ) → Turn (Unit {0}) (List ℕ)
to_first misc = again tt
to_first (child w) = last w
to_first close = last []

-- behind a node's start tag, to the end of its first child's name
unfoldable pub first_child : G (List ℕ)
first_child = loop (λ (st : Unit {0}). seq (between stray_end (λ w. 0) (λ w. ret w)) (λ p. ret (to_first p))) tt

-- behind the name of a child: whether it is a Description with text, to whose first byte this reads
abbrev pub description_tag : List ℕ → G Bool
description_tag w = cond (same w (bytes "Description")) (seq (start_tag plain) (λ tag. ret (not tag.empty))) (ret false)

-- behind a node's start tag
abbrev pub in_node : Tag → G Bool
in_node tag = cond tag.empty (ret false) (first_child >>= description_tag)

-- from a node's `<` on, to the first byte of its Description's text, if it has one
unfoldable pub to_text : G Bool
to_text = do
  w ← open_name
  tag ← start_tag plain
  in_node tag

-- the text that begins here, up to the `<` behind it. It is asked of an accepted file, whose texts are whole: the zeros are never taken there
abbrev pub text_length : Out ((Unit {0}) × List ℕ) → ℕ
text_length (done t r) = length t.1
text_length (fault k r) = 0
text_length cut = 0

-- a part of the file: its first byte's place, and how many bytes it has; `no_part` is the empty one at the file's beginning
abbrev pub no_part : ℕ × ℕ
no_part = (0, 0)

-- of the file s, the text that begins where r does, if there is one
abbrev pub found_part : List ℕ → Bool → List ℕ → ℕ × ℕ
found_part s true r = (place_in s r, text_length ((text_to less_than).run r))
found_part s false r = no_part

abbrev pub text_part : List ℕ → Out Bool → ℕ × ℕ
text_part s (done found r) = found_part s found r
text_part s (fault k r) = no_part
text_part s cut = no_part

-- the text of the first Description of the node whose `<` stands at `at`
unfoldable pub part_from : ℕ → List ℕ → ℕ × ℕ
part_from at s = text_part s (to_text.run (drop at s))

-- 'empty when there is none or the call is refused'
abbrev pub part_asked : ℕ → List ℕ → Reading → ℕ × ℕ
part_asked k s (accepted l) = part_from (node_span s (k - 1)).0 s
part_asked k s (faulty j p) = no_part
part_asked k s (unfit j p) = no_part

-- the first Description inside node k, from 1: where it stands in the file
unfoldable pub description_part : ℕ → List ℕ → ℕ × ℕ
description_part k s = part_asked k s (description_asked k s)

-- and its bytes
abbrev pub bytes_of : ℕ × ℕ → List ℕ → List ℕ
bytes_of w s = take w.1 (drop w.0 s)
