-- Reading a file (document 01, Refusal numbers): 4 first; then the fault with the smallest place; then, only over text without fault, 12, 11, 10, 23 (document 02, W-203), 13.
use Rattle.std.specs.Prelude.{Bool, cond, ◌&&◌, List, [], ◌∷◌, ℕ, ◌-◌, ltb, leb, length}
use Rattle.process_list.specs.List.{Verdict, Element, verdict, by_verdict, most_numbers}
use Rattle.grammar.specs.Parse.{Out, done, fault, cut}
use Rattle.xml.specs.Elements.{Part, misc, child, close}
use Rattle.clf.specs.List.{Child, node, description, input_descriptor, output_descriptor, info_child, Document, document, tail}
use Rattle.refusals.specs.Refusals as Refusal

-- 'At most 16 MiB (16,777,216 bytes)'
abbrev pub most_bytes : ℕ
most_bytes = 16777216

-- what reading answers: the nodes; or a fault of the text, with its number and its place; or a fault of the list, with its number and the number of its node (0 for 12 and 13).
-- `faulty` is also 4, and 19 where a node is asked for: both at 0
pub data Reading : Type 0 where
  accepted : List Element → Reading
  faulty : ℕ → ℕ → Reading
  unfit : ℕ → ℕ → Reading

-- the nodes among the items, in file order
abbrev pub with_child : Child → List Element → List Element
with_child (node n) l = n ∷ l
with_child description l = l
with_child input_descriptor l = l
with_child output_descriptor l = l
with_child info_child l = l

abbrev pub with_part : Part Child → List Element → List Element
with_part misc l = l
with_part (child c) l = with_child c l
with_part close l = l

unfoldable pub nodes_among : List (Part Child × List ℕ) → List Element
nodes_among [] = []
nodes_among (x ∷ l) = with_part x.0 (nodes_among l)

-- 'the place of refusal 1 is the length'; of a fault, the byte at which its bytes begin
abbrev pub place_in : List ℕ → List ℕ → ℕ
place_in s r = length s - length r

abbrev pub reading_by : List Element → Verdict → Reading
reading_by l = by_verdict (accepted l) unfit

-- the finished list, for a room of this length
unfoldable pub list_reading : ℕ → List Element → Reading
list_reading room l = reading_by l (verdict room l)

abbrev pub tail_reading : ℕ → List ℕ → Document → Out (Unit {0}) → Reading
tail_reading room s d (done u r) = list_reading room (nodes_among d.parts)
tail_reading room s d (fault k r) = faulty k (place_in s r)
tail_reading room s d cut = faulty Refusal.cut_short (length s)

abbrev pub text_reading : ℕ → List ℕ → Out Document → Reading
text_reading room s (done d r) = tail_reading room s d (tail r)
text_reading room s (fault k r) = faulty k (place_in s r)
text_reading room s cut = faulty Refusal.cut_short (length s)

-- reading without the limit of 16 MiB
unfoldable pub read_text : ℕ → List ℕ → Reading
read_text room s = text_reading room s (document.run s)

-- reading a file into a room of this length
unfoldable pub read : ℕ → List ℕ → Reading
read room s = cond (ltb most_bytes (length s)) (faulty Refusal.too_long 0) (read_text room s)

-- its refusal number, its place, its nodes: 'a refused reading gives no nodes'
abbrev pub reading_number : Reading → ℕ
reading_number (accepted l) = 0
reading_number (faulty k p) = k
reading_number (unfit k p) = k

abbrev pub reading_place : Reading → ℕ
reading_place (accepted l) = 0
reading_place (faulty k p) = p
reading_place (unfit k p) = p

abbrev pub nodes_in : Reading → List Element
nodes_in (accepted l) = l
nodes_in (faulty k p) = []
nodes_in (unfit k p) = []

-- ---- Description and player: neither is lent a room; '13 there means over 262,144 numbers'

abbrev pub read_alone : List ℕ → Reading
read_alone s = read most_numbers s

-- 'node number, from 1'
abbrev pub is_numbered : ℕ → ℕ → Bool
is_numbered k count = ltb 0 k && leb k count

-- a Description's 'number (reading's, then 19) is a second question'
abbrev pub asked_for : ℕ → Reading → Reading
asked_for k (accepted l) = cond (is_numbered k (length l)) (accepted l) (faulty Refusal.no_such_node 0)
asked_for k (faulty j p) = faulty j p
asked_for k (unfit j p) = unfit j p

unfoldable pub description_asked : ℕ → List ℕ → Reading
description_asked k s = asked_for k (read_alone s)
