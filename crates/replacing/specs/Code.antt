-- What a replacing call answers and leaves, for the code's records.
use Rattle.process_list.specs.List.{Element}
use Rattle.std.specs.Prelude.{◌≡◌, Bool, true, cond, List, [], ℕ, ◌≤◌, ◌<◌, length, Result, Ok, Err}
use Rattle.grammar.specs.Parse.{done}
use Rattle.process_list.specs.declared.Node.{Node}
use Rattle.process_list.specs.declared.ProcessList.{ProcessList}
use Rattle.process_list.specs.File.{kept_numbers}
use Rattle.process_list.specs.List as Lists
use Rattle.room.specs.Room.{Room, resized_in}
use Rattle.valid.specs.Valid.{is_valid}
use Rattle.xml.specs.declared.Stop.{Stop}
use Rattle.clf.specs.Reading.{most_bytes, is_numbered}
use Rattle.node_parts.specs.declared.NodeRead.{NodeRead}
use Rattle.node_parts.specs.Code.{NodeReads}
use Rattle.reading.specs.declared.Refused.{Refused}
use Rattle.look.specs.Replacing.{element, by_element, Call, plain_call, numbered_call, kept_at}
use Rattle.look.specs.Replacing as Replacing
use Rattle.look.specs.Look.{Look, call_in, look_after}
use Rattle.refusals.specs.Refusals as Refusal

-- ---- what a call answers

-- the refusal number, 0 for accepted, and its place
abbrev pub replacing_number : Replacing.Replacing → ℕ
replacing_number (Replacing.replaced es) = 0
replacing_number (Replacing.refused n p) = n

abbrev pub replacing_place : Replacing.Replacing → ℕ
replacing_place (Replacing.replaced es) = 0
replacing_place (Replacing.refused n p) = p

-- why the code refuses it, if it does
abbrev pub Outcome : Type 0
Outcome = Result (Unit {0}) Refused

unfoldable pub replacing_answer : Replacing.Replacing → Outcome
replacing_answer (Replacing.replaced es) = Ok tt
replacing_answer (Replacing.refused n p) = Err (record { number = n; place = p })

-- the answer r of a call that answers a and leaves the look y, and the list and the whole room after it
pub record AnswersWith (a : Replacing.Replacing) (y : Look) (r : Outcome) (l₁ : ProcessList) (m₁ : Room) : Type 0 where
  pub answer : r ≡ replacing_answer a
  pub list : l₁ ≡ y.list
  pub room : m₁ ≡ y.room

abbrev pub look_of : ProcessList → Room → Look
look_of l m = record { list = l; room = m }

-- the call c on the look x
abbrev pub CallAnswers : Look → Call → Outcome → ProcessList → Room → Type 0
CallAnswers x c r l₁ m₁ = AnswersWith (call_in x c) (look_after x c (call_in x c)) r l₁ m₁

-- the call c on this list and this room
abbrev pub Replaced : ProcessList → Room → Call → Outcome → ProcessList → Room → Type 0
Replaced l m₀ c r l₁ m₁ = CallAnswers (look_of l m₀) c r l₁ m₁

-- ---- what the small steps of the code do

-- '16, 19', of node k; 0 where neither is given
unfoldable pub node_refusal : Bool → ℕ → ℕ → ℕ
node_refusal valid count k = cond valid (cond (is_numbered k count) 0 Refusal.no_such_node) Refusal.no_reading

-- the list has node k, from 1
pub record There (l : ProcessList) (k : ℕ) : Type 0 where
  pub first : 0 < k
  pub last : k ≤ length (Lists.nodes_of l)

-- the number kept with node k
abbrev pub kept_with : ProcessList → ℕ → ℕ
kept_with l k = kept_at (kept_numbers l) k

-- a call on node k for which 16 and 19 are not given; 28 does not depend on what is done then
pub record OnNode (l : ProcessList) (m : Room) (k : ℕ) : Type 0 where
  pub valid : is_valid l m ≡ true
  pub array : length l.nodes ≡ Lists.most_nodes
  pub there : There l k

-- the number kept with node k of a call for which 16 and 19 are not given, or one of these
abbrev pub KeptAt : ProcessList → Room → ℕ → Result ℕ Refused → Type 0
KeptAt l m k (Ok n) = OnNode l m k × (n ≡ kept_with l k)
KeptAt l m k (Err why) =
    (why ≡ record { number = node_refusal (is_valid l m) (length (Lists.nodes_of l)) k; place = 0 }) × (node_refusal (is_valid l m) (length (Lists.nodes_of l)) k ≡ 0 → ⊥)

-- a call that answers as an unnumbered one does, and leaves the number w with node k if it is accepted
abbrev pub ReplacedKeeping : ℕ → ProcessList → Room → ℕ → List ℕ → Outcome → ProcessList → Room → Type 0
ReplacedKeeping w l m₀ k e r l₁ m₁ =
    AnswersWith (call_in (look_of l m₀) (plain_call k e)) (look_after (look_of l m₀) (numbered_call k w e) (call_in (look_of l m₀) (plain_call k e))) r l₁ m₁

-- an element read without room: some room of one number was lent
pub record ElementAlone (s : List ℕ) (r : Result NodeRead Stop) : Type 0 where
  pub m₀ : Room
  pub m₁ : Room
  pub reads : NodeReads element.run s 0 0 r m₀ m₁

-- the bytes are an element without fault, which has this node
pub record ElementIs (e : List ℕ) (node : Node) : Type 0 where
  pub value : Element
  pub out : element.run e ≡ done value []
  pub is : node ≡ Lists.node_of value
  pub all : length value.numbers ≡ Lists.numbers_of value.kind

-- or why they are none, whatever the list: 'bytes after' are 20 at the first of them
abbrev pub ElementJudged : List ℕ → Result Node Refused → Type 0
ElementJudged e (Ok node) = ElementIs e node
ElementJudged e (Err why) = (room : ℕ) (es : List Element) (k : ℕ) → by_element room es k e (element.run e) ≡ Replacing.refused why.number why.place

-- the room in which the numbers of node i, from 0, have given way to as many zeros as the new node has numbers
unfoldable pub made_way : ProcessList → ℕ → Node → Room → Room
made_way l i node m =
    resized_in (Lists.node_at l i).at (Lists.capped (Lists.numbers_of (Lists.node_at l i).kind)) (Lists.capped (Lists.numbers_of node.kind)) (Lists.capped (Lists.total (Lists.nodes_of l))) m

-- the element read where node i stood
pub record Stores (l : ProcessList) (i : ℕ) (node : Node) (e : List ℕ) (m₀ m₁ : Room) : Type 0 where
  pub step : Result NodeRead Stop
  pub reads : NodeReads element.run e 0 (Lists.node_at l i).at step (made_way l i node m₀) m₁

-- a call that 16, 19 and 4 do not refuse
pub record Callable (l : ProcessList) (m : Room) (k : ℕ) (e : List ℕ) : Type 0 where
  pub on : OnNode l m k
  pub small : length e ≤ most_bytes

-- and whose element has no fault, and this node
pub record Fits (l : ProcessList) (m : Room) (k : ℕ) (node : Node) (e : List ℕ) : Type 0 where
  pub callable : Callable l m k e
  pub element : ElementIs e node
