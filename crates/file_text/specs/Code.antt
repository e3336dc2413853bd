-- What the answers of the code mean.
use Rattle.process_list.specs.List.{Element, all_numbers}
use Rattle.std.specs.Prelude.{◌≡◌, Bool, true, false, cond, List, [], map, ℕ, ◌+◌, min, eqb, ltb, leb, length, take, drop}
use Rattle.decimal.specs.declared.Decimal.{Decimal}
use Rattle.grammar.specs.Parse.{Out, done, then_out, Parser}
use Rattle.grammar.specs.Grammar.{items, whole_items}
use Rattle.xml.specs.Code.{Scan}
use Rattle.std.specs.Prelude.{Result, Ok, Err}
use Rattle.xml.specs.declared.Stop.{Stop}
use Rattle.xml.specs.declared.Stop.TheVariants as Stops
use Rattle.xml.specs.Code.{scan_out, Inside}
use Rattle.xml.specs.Elements.{Part}
use Rattle.process_list.specs.declared.Node.{Node}
use Rattle.process_list.specs.declared.ProcessList.{ProcessList}
use Rattle.process_list.specs.List as Lists
use Rattle.room.specs.Room.{Room, room_length, laid_in, filled_with}
use Rattle.room.proofs.Rooms.{RoomFrom}
use Rattle.node_parts.specs.declared.NodeRead.{NodeRead}
use Rattle.node_parts.specs.Code.{NodeReads}
use Rattle.nodes.specs.declared.CarriedNode.{CarriedNode}
use Rattle.nodes.specs.declared.NodeName.{NodeName}
use Rattle.nodes.specs.Code.{carried_of, name_of}
use Rattle.xml.specs.Xml.{start_tag}
use Rattle.clf.specs.Nodes.{node_body, node_fault}
use Rattle.clf.specs.List.{Child, node, description, input_descriptor, output_descriptor, info_child, Flags, no_flags, next_flags, child_fault, child_body, list_item, list_rules, list_content, Document, document, tail}
use Rattle.clf.specs.Reading.{nodes_among, with_child}
use Rattle.clf.specs.Whole.{WholeText, whole_text, whole_nodes, content_place, place_among}
use Rattle.file_text.specs.declared.ListState.{ListState}
use Rattle.file_text.specs.declared.ListStep.{ListStep}
use Rattle.file_text.specs.declared.Progress.{Progress}
use Rattle.file_text.specs.declared.FoundChild.{FoundChild}
use Rattle.file_text.specs.declared.FoundChild.TheVariants as Found
use Rattle.file_text.specs.declared.ChildRead.{ChildRead}
use Rattle.refusals.specs.Refusals as Refusal

-- the nodes of a text without fault, or its fault
abbrev pub after_root : Document → List ℕ → Out (List Element)
after_root d r = then_out (tail r) (λ u q. done (nodes_among d.parts) q)

unfoldable pub text_nodes : List ℕ → Out (List Element)
text_nodes s = then_out (document.run s) after_root

-- what the list holds of nodes, but for the position
abbrev pub bare : List Element → List Node
bare l = map Lists.node_of l

-- ---- what a text leaves: its state, and the room

-- the state with these nodes: the first 32 of them; whether there are more; how many numbers they have, counted no further than one more than may be
unfoldable pub state_with : Flags → List Element → ℕ → ListState
state_with flags nodes start = record {
  list = Lists.list_of (bare nodes);
  over = ltb Lists.most_nodes (length nodes);
  used = Lists.capped (Lists.total (bare nodes));
  input = flags.input;
  output = flags.output;
  info = flags.info;
  start = start;
}

-- after these items, of which the first stands at `at`: `start` is the place of the node that is wanted
unfoldable pub state_from : ℕ → ℕ → WholeText → ListState
state_from wanted at whole = state_with whole.0 (nodes_among whole.1) (place_among wanted at whole.1)

-- after what stands whole in a text
unfoldable pub state_of : ℕ → List ℕ → ListState
state_of wanted s = state_from wanted (content_place s) (whole_text s)

-- as many of the numbers as a room of length n holds and a list may have
abbrev pub fitting_numbers : ℕ → List Decimal → List Decimal
fitting_numbers n xs = take (min n Lists.most_numbers) xs

-- as many numbers as the kinds of the nodes ask for
abbrev pub Counted : List Element → Type 0
Counted nodes = length (all_numbers nodes) ≡ Lists.total (bare nodes)

-- the text of a file: its answer is the definition's; the state is that of the nodes that stand whole, at a fault those before it;
-- and the room holds their numbers, the rest of it is zero
pub record ListReads (wanted : ℕ) (s : List ℕ) (r : ListStep) (m₀ m₁ : Room) : Type 0 where
  pub out : scan_out (λ e. whole_nodes s) s r.scan ≡ text_nodes s
  pub inside : Inside 0 s 0 r.scan
  pub state : r.state ≡ state_of wanted s
  pub counted : Counted (whole_nodes s)
  pub room : m₁ ≡ filled_with (fitting_numbers (room_length m₀) (all_numbers (whole_nodes s))) m₀

-- ---- before the rest of the room is cleared

-- the numbers of the nodes stand in the room, as far as may be; what stands behind them is not said
abbrev pub Holds : List Element → Room → Room → Type 0
Holds nodes m₀ m₁ = RoomFrom (min (Lists.total (bare nodes)) Lists.most_numbers) (laid_in 0 (all_numbers nodes) m₀) m₁

pub record TextReads (wanted : ℕ) (s : List ℕ) (r : ListStep) (m₀ m₁ : Room) : Type 0 where
  pub out : scan_out (λ e. whole_nodes s) s r.scan ≡ text_nodes s
  pub inside : Inside 0 s 0 r.scan
  pub state : r.state ≡ state_of wanted s
  pub counted : Counted (whole_nodes s)
  pub room : Holds (whole_nodes s) m₀ m₁

-- ProcessList's items read from `at` on: the answer is p's, whose value is `parts`; the items that stand whole are `whole`, of which the first stands at `place`
pub record ItemsRead (wanted : ℕ) (p : Parser (List (Part Child × List ℕ))) (whole : WholeText) (place : ℕ) (s : List ℕ) (at : ℕ) (r : ListStep) (m₀ m₁ : Room) : Type 0 where
  pub parts : List (Part Child × List ℕ)
  pub out : scan_out (λ e. parts) s r.scan ≡ p (drop at s)
  pub inside : Inside 0 s at r.scan
  pub state : r.state ≡ state_from wanted place whole
  pub counted : Counted (nodes_among whole.1)
  pub room : Holds (nodes_among whole.1) m₀ m₁

-- the content of ProcessList from `at` on
abbrev pub ContentReads : ℕ → List ℕ → ℕ → ListStep → Room → Room → Type 0
ContentReads wanted s at r m₀ m₁ = ItemsRead wanted (items list_item next_flags no_flags).run (whole_items list_item next_flags no_flags (drop at s)) at s at r m₀ m₁

-- ProcessList behind its name
abbrev pub root_p : Parser (List (Part Child × List ℕ))
root_p u = then_out ((start_tag list_rules).run u) (λ tag. (list_content tag).run)

-- ---- what the small steps of the code do

-- which of the children that may not repeat have been there
abbrev pub flags_of : Progress → Flags
flags_of p = record { input = p.input; output = p.output; info = p.info }

-- the state of this list, with what is kept beside it
abbrev pub state_by : ProcessList → Progress → ListState
state_by list p = record { list = list; over = p.over; used = p.used; input = p.input; output = p.output; info = p.info; start = p.start }

-- what is kept beside the list before any child
abbrev pub no_progress : Progress
no_progress = record { over = false; used = 0; input = false; output = false; info = false; start = 0 }

-- the state before any child
abbrev pub no_list : ListState
no_list = state_by (Lists.list_of []) no_progress

-- the same with these flags
abbrev pub flagged : Progress → Bool → Bool → Bool → Progress
flagged p i o f = record { over = p.over; used = p.used; input = i; output = o; info = f; start = p.start }

-- the text reads so, and leaves this state
abbrev pub step : Scan → ListState → ListStep
step scan st = record { scan = scan; state = st }

-- the place of the node that is wanted, after `count` nodes and one more, whose `<` stands at `at`
unfoldable pub wanted_start : ℕ → ℕ → ℕ → ℕ → ℕ
wanted_start count wanted old at = cond (ltb count 32) (cond (eqb (count + 1) wanted) at old) old

-- whether there are more than 32 nodes, after `count` in the list and one more
unfoldable pub is_over : Bool → ℕ → Bool
is_over over count = cond over true (leb 32 count)

-- one node more behind `count` others, whose `<` stands at `at`
unfoldable pub behind_node : Progress → Node → ℕ → ℕ → ℕ → Progress
behind_node p n count wanted at = record {
  over = is_over p.over count;
  used = Lists.capped (p.used + Lists.numbers_of n.kind);
  input = p.input;
  output = p.output;
  info = p.info;
  start = wanted_start count wanted p.start at;
}

-- one child more behind `count` nodes, whose `<` stands at `at`
abbrev pub behind_child : Progress → FoundChild → ℕ → ℕ → ℕ → Progress
behind_child p (Found.Node n) count wanted at = behind_node p n count wanted at
behind_child p Found.InputDescriptor count wanted at = flagged p true p.output p.info
behind_child p Found.OutputDescriptor count wanted at = flagged p p.input true p.info
behind_child p Found.Info count wanted at = flagged p p.input p.output true
behind_child p Found.Other count wanted at = p

-- the list with one child more
abbrev pub list_with : ProcessList → FoundChild → ProcessList
list_with list (Found.Node n) = Lists.appended list n
list_with list Found.InputDescriptor = list
list_with list Found.OutputDescriptor = list
list_with list Found.Info = list
list_with list Found.Other = list

-- a child of the definition, as the code answers it
abbrev pub found_child : Child → FoundChild
found_child (node v) = Found.Node (Lists.node_of v)
found_child description = Found.Other
found_child input_descriptor = Found.InputDescriptor
found_child output_descriptor = Found.OutputDescriptor
found_child info_child = Found.Info

-- the place behind a child
abbrev pub child_end : Result ChildRead Stop → Scan
child_end (Ok r) = Ok r.end
child_end (Err x) = Err x

-- a child that reads so and is this one
abbrev pub child_by : Scan → FoundChild → Result ChildRead Stop
child_by (Ok e) child = Ok (record { end = e; child = child })
child_by (Err x) child = Err x

-- a node that reads so, as a child
abbrev pub node_by : Result NodeRead Stop → Result ChildRead Stop
node_by (Ok n) = Ok (record { end = n.end; child = Found.Node n.node })
node_by (Err x) = Err x

-- a child that is no node: refused where it may not repeat and has been there
abbrev pub once_child : ℕ → Bool → Scan → FoundChild → Result ChildRead Stop
once_child at seen scan child = cond seen (Err (Stops.Fault Refusal.wrong_element at)) (child_by scan child)

-- a carried node behind its name
pub record CarriedReads (s : List ℕ) (e : ℕ) (name : CarriedNode) (used : ℕ) (r : Result ChildRead Stop) (m₁ m₂ : Room) : Type 0 where
  pub node : Result NodeRead Stop
  pub reads : NodeReads (node_body (carried_of name)).run s e used node m₁ m₂
  pub is : r ≡ node_by node

-- a child by its name as a node: a carried one, or none that may stand there
pub data NodeChild (s : List ℕ) (at e : ℕ) (name : NodeName) (used : ℕ) (r : Result ChildRead Stop) (m₁ m₂ : Room) : Type 0 where
  carried : (n : CarriedNode) → name_of name ≡ carried_of n → CarriedReads s e n used r m₁ m₂ → NodeChild s at e name used r m₁ m₂
  other : (k : ℕ) → node_fault (name_of name) ≡ k → (k ≡ 0 → ⊥) → r ≡ Err (Stops.Fault k at) → m₂ ≡ m₁ → NodeChild s at e name used r m₁ m₂

-- what a child leaves: where it stands whole, it is the definition's, and its numbers stand from `used` on; else nothing has changed but the room from there on
abbrev pub ChildLeaves : ℕ → Child → Result ChildRead Stop → Room → Room → Type 0
ChildLeaves used c (Ok r) m₁ m₂ = (r.child ≡ found_child c) × Counted (with_child c []) × (m₂ ≡ laid_in used (all_numbers (with_child c [])) m₁)
ChildLeaves used c (Err x) m₁ m₂ = RoomFrom used m₁ m₂

-- a child of the name w, whose `<` stands at `at` and whose name ends at e: it may not stand there, or it reads as the definition's
pub data ChildReads (s w : List ℕ) (at e : ℕ) (p : Progress) (r : Result ChildRead Stop) (m₁ m₂ : Room) : Type 0 where
  refused : (k : ℕ) → child_fault (flags_of p) w ≡ k → (k ≡ 0 → ⊥) → r ≡ Err (Stops.Fault k at) → m₂ ≡ m₁ → ChildReads s w at e p r m₁ m₂
  read : (c : Child) → child_fault (flags_of p) w ≡ 0 → scan_out (λ q. c) s (child_end r) ≡ (child_body w).run (drop e s) → Inside 1 s e (child_end r)
      → ChildLeaves p.used c r m₁ m₂ → ChildReads s w at e p r m₁ m₂
