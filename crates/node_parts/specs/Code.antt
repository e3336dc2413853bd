-- What the answers of the code mean.
use Rattle.process_list.specs.List.{Element}
use Rattle.std.specs.Prelude.{◌≡◌, cond, List, [], ◌∷◌, ℕ, ℤ, pos, ltb, length, drop, get_or}
use Rattle.decimal.specs.declared.Decimal.{Decimal}
use Rattle.decimal.specs.Decimal as Decimals
use Rattle.grammar.specs.Parse.{Parser}
use Rattle.std.specs.Prelude.{Result, Ok, Err}
use Rattle.xml.specs.declared.Stop.{Stop}
use Rattle.xml.specs.Code.{Scan, scan_out, Inside}
use Rattle.process_list.specs.declared.Kind.{Kind}
use Rattle.process_list.specs.declared.Node.{Node}
use Rattle.process_list.specs.List as Lists
use Rattle.tags.specs.declared.Attributes.{Attributes}
use Rattle.tags.specs.Code.{attributes_of}
use Rattle.room.specs.Room.{Room, room_length}
use Rattle.values.specs.Code.{Laid, room_after}
use Rattle.xml.specs.Bytes.{bytes}
use Rattle.xml.specs.Xml.{text_of}
use Rattle.ids.specs.Ids.{held_id}
use Rattle.clf.specs.Nodes.{depth_at}
use Rattle.node_parts.specs.declared.NodeRead.{NodeRead}

-- the number of index k of a small room; zero where there is none
unfoldable pub small_number_at : Room → ℕ → Decimal
small_number_at m k = cond (ltb k (room_length m)) (record { coefficient = get_or m.coefficients k (pos 0); power = get_or m.powers k (pos 0) }) Decimals.zero

-- the numbers of a small room
abbrev pub numbers_from : List ℤ → List ℤ → List Decimal
numbers_from [] ps = []
numbers_from (c ∷ cs) [] = []
numbers_from (c ∷ cs) (p ∷ ps) = record { coefficient = c; power = p } ∷ numbers_from cs ps

abbrev pub small_numbers : Room → List Decimal
small_numbers m = numbers_from m.coefficients m.powers

-- n numbers that stand in the room from `base` on
pub record NumbersIn (n base : ℕ) (m₀ m₁ : Room) (xs : List Decimal) : Type 0 where
  pub counted : length xs ≡ n
  pub room : Laid base xs m₀ m₁

-- a node of these attributes and this kind
unfoldable pub finished_node : List ℕ → Attributes → Kind → Node
finished_node s attributes kind =
    Lists.unplaced kind (depth_at (bytes "inBitDepth") (attributes_of s attributes)) (depth_at (bytes "outBitDepth") (attributes_of s attributes)) (held_id (text_of (bytes "id") (attributes_of s attributes)))

-- the place behind a node
abbrev pub end_of : Result NodeRead Stop → Scan
end_of (Ok n) = Ok n.end
end_of (Err x) = Err x

-- the node of an answer, where it has one: what the list holds of it but for the position
abbrev pub NodeOf : Result NodeRead Stop → Element → Type 0
NodeOf (Ok n) v = n.node ≡ Lists.node_of v
NodeOf (Err x) v = Unit

-- as many numbers as the kind asks for, where the answer is a next place
abbrev pub AllNumbers : Scan → Element → Type 0
AllNumbers (Ok e) v = length v.numbers ≡ Lists.numbers_of v.kind
AllNumbers (Err x) v = Unit

-- a node read from `at` on: the answer is p's, and where it is a next place its value is `value`, whose numbers stand in the room from `base` on.
-- At a fault, or where the bytes end, there is no node, and the room is zero from `base` on
pub record NodeReads (p : Parser Element) (s : List ℕ) (at base : ℕ) (r : Result NodeRead Stop) (m₀ m₁ : Room) : Type 0 where
  pub value : Element
  pub out : scan_out (λ e. value) s (end_of r) ≡ p (drop at s)
  pub inside : Inside 1 s at (end_of r)
  pub node : NodeOf r value
  pub all : AllNumbers (end_of r) value
  pub room : m₁ ≡ room_after base (end_of r) value.numbers m₀
