-- What the numbers of replacements promise (document 02, W-208): of one call, which are late and what is kept; of a whole run, that the newest accepted one wins and that every order of arrival ends
-- alike. Definitions only.
use Rattle.std.specs.Prelude.{◌≡◌, ◌↔◌, true, cond, ◌&&◌, List, [], ◌∷◌, ℕ, ◌-◌, ◌≤◌, eqb, ltb, length, take, set}
use Rattle.ids.specs.Ids.{id_text}
use Rattle.process_list.specs.List.{Element, numbers_of, nodes_of, node_at}
use Rattle.valid.specs.Valid.{is_valid, element_of}
use Rattle.grammar.specs.Parse.{done}
use Rattle.clf.specs.Reading.{most_bytes}
use Rattle.look.specs.Look.{Look, as_read, kept_of, call_in, look_after}
use Rattle.look.specs.Replacing.{element, Numbering, unnumbered, numbered, Call, plain_call, numbered_call}
use Rattle.reading.specs.Code.{number_of, place_of}
use Rattle.replacing.specs.Code.{Outcome, CallAnswers, There, replacing_number, replacing_place}
use Rattle.claims.specs.LookRuns.{look_run}
use Rattle.replace_run.specs.Runs.{CallsRun}

-- a fact of each one in a list
abbrev pub Each : {A : Type 0} → (A → Type 0) → List A → Type 0
Each P [] = Unit {0}
Each P (x ∷ xs) = P x × Each P xs

-- the number kept with node k
abbrev pub newest_at : Look → ℕ → ℕ
newest_at x k = (node_at x.list (k - 1)).newest

-- ---- one call, on list and room x: r is its answer, and y are list and room after it

-- it answers as the unnumbered call does, and leaves the same, but for the kept numbers
pub record AsUnnumbered (x : Look) (k : ℕ) (e : List ℕ) (r : Outcome) (y : Look) : Type 0 where
  pub number : number_of r ≡ replacing_number (call_in x (plain_call k e))
  pub place : place_of r ≡ replacing_place (call_in x (plain_call k e))
  pub left : as_read y ≡ as_read (look_after x (plain_call k e) (call_in x (plain_call k e)))

-- 'A numbered replacement ..': its number is n
pub record NumberedCall (x : Look) (k n : ℕ) (e : List ℕ) (r : Outcome) (y : Look) : Type 0 where
  pub answers : CallAnswers x (numbered_call k n e) r y.list y.room
  -- 'is late exactly if that [n] is not larger', '28, late, its place 0, between 19 and 4': so 16 and 19 are not given, and nothing is asked of the element
  pub late : (number_of r ≡ 28) ↔ ((is_valid x.list x.room ≡ true) × There x.list k × (n ≤ newest_at x k))
  pub place : number_of r ≡ 28 → place_of r ≡ 0
  -- 'any other answers as an unnumbered one does'
  pub other : (number_of r ≡ 28 → ⊥) → AsUnnumbered x k e r y
  -- accepted, its number is kept with node k; refused, for whatever reason, nothing changes
  pub kept : number_of r ≡ 0 → kept_of y ≡ set (kept_of x) (k - 1) n
  pub refused : (number_of r ≡ 0 → ⊥) → y ≡ x

-- an unnumbered one is never late, and its answer does not depend on any kept number; 'Unnumbered replacing leaves the kept number'
pub record UnnumberedCall (x : Look) (k : ℕ) (e : List ℕ) (r : Outcome) (y : Look) : Type 0 where
  pub answers : CallAnswers x (plain_call k e) r y.list y.room
  pub never : number_of r ≡ 28 → ⊥
  pub unseen : call_in x (plain_call k e) ≡ call_in (as_read x) (plain_call k e)
  pub kept : kept_of y ≡ kept_of x
  pub refused : (number_of r ≡ 0 → ⊥) → y ≡ x

-- ---- a run: the newest wins

-- the number of a numbered call; an unnumbered one has none, and 0 stands for it
abbrev pub number_given : Numbering → ℕ
number_given unnumbered = 0
number_given (numbered n) = n

abbrev pub call_number : Call → ℕ
call_number c = number_given c.numbering

-- 'numbered replacements alone'
abbrev pub HasNumber : Call → Type 0
HasNumber c = (n : ℕ) × (c.numbering ≡ numbered n)

-- of a run with these answers, the accepted calls for node k: the answer's number is 0
unfoldable pub accepted_at : ℕ → List Call → List ℕ → List Call
accepted_at k [] ns = []
accepted_at k (c ∷ cs) [] = []
accepted_at k (c ∷ cs) (n ∷ ns) = cond (eqb n 0 && eqb c.node k) (c ∷ accepted_at k cs ns) (accepted_at k cs ns)

-- 'the .. one with the largest number' of c and cs, and of several with that number the first
unfoldable pub largest : Call → List Call → Call
largest c [] = c
largest c (d ∷ ds) = cond (ltb (call_number c) (call_number d)) (largest d ds) (largest c ds)

-- node k, from 1, of list and room, 'but for where its numbers stand': kind with style and shape, depths, id and numbers are those of e, and n is the number kept with it
pub record NodeIs (x : Look) (k : ℕ) (e : Element) (n : ℕ) : Type 0 where
  pub element : element_of x.room (node_at x.list (k - 1)) ≡ e
  pub newest : newest_at x k ≡ n

-- it is what the call c made it
pub record MadeBy (x : Look) (k : ℕ) (c : Call) : Type 0 where
  pub value : Element
  pub parsed : element.run c.element ≡ done value []
  pub is : NodeIs x k value (call_number c)

-- node k before the run, in x, and after it, in y, by the calls that were accepted there: 'what the accepted one with the largest number there made it, or as it was .. if none was accepted'
abbrev pub NewestWins : Look → Look → ℕ → List Call → Type 0
NewestWins x y k [] = NodeIs y k (element_of x.room (node_at x.list (k - 1))) (newest_at x k)
NewestWins x y k (c ∷ cs) = MadeBy y k (largest c cs)

-- the same for every node: no node comes or goes
pub record EachNewest (x : Look) (calls : List Call) (ns : List ℕ) (y : Look) : Type 0 where
  pub count : length (nodes_of y.list) ≡ length (nodes_of x.list)
  pub nodes : (k : ℕ) → There x.list k → NewestWins x y k (accepted_at k calls ns)

-- ---- a run: every order of arrival

-- the same calls in another order: any two neighbours change places, again and again
pub data Reordered : List Call → List Call → Type 0 where
  same : {cs : List Call} → Reordered cs cs
  keep : {cs ds : List Call} (c : Call) → Reordered cs ds → Reordered (c ∷ cs) (c ∷ ds)
  swap : {cs : List Call} (c d : Call) → Reordered (c ∷ d ∷ cs) (d ∷ c ∷ cs)
  chain : {cs ds es : List Call} → Reordered cs ds → Reordered ds es → Reordered cs es

-- a numbered replacement of a node of x, 'without fault' (its node is there, its element at most 16 MiB, whole and sound), that keeps its 'node's depths, count of numbers and id': an element without
-- id where the node has none, else with the very same one
pub record KeepsDepthsCountAndId (x : Look) (c : Call) : Type 0 where
  pub number : HasNumber c
  pub there : There x.list c.node
  pub small : length c.element ≤ most_bytes
  pub value : Element
  pub parsed : element.run c.element ≡ done value []
  pub input : value.input ≡ (node_at x.list (c.node - 1)).input
  pub output : value.output ≡ (node_at x.list (c.node - 1)).output
  pub count : numbers_of value.kind ≡ numbers_of (node_at x.list (c.node - 1)).kind
  pub id : value.id ≡ id_text (node_at x.list (c.node - 1)).id

-- 'no two for one node share a number'
abbrev pub Apart : Call → Call → Type 0
Apart c d = c.node ≡ d.node → call_number c ≡ call_number d → ⊥

abbrev pub AllApart : List Call → Type 0
AllApart [] = Unit {0}
AllApart (c ∷ cs) = Each (Apart c) cs × AllApart cs

-- the premises of the second theorem: they speak of the look at the start and of the elements, and of no answer
pub record Reorderable (x : Look) (calls : List Call) : Type 0 where
  pub each : Each (KeepsDepthsCountAndId x) calls
  pub apart : AllApart calls

-- THE PROMISE of a run of calls from any look x, for all inputs: the whole run; 'after any run of numbered replacements alone' the newest has won at each node; and where the calls are such as may be
-- reordered, 'every order of arrival ends in the same list, numbers included': list, kept numbers and room. (On a look that is no reading every call is 16, and nothing changes)
pub record RunPromises (x : Look) (calls : List Call) (ns₀ ps₀ : List ℕ) (y : Look) (ns₁ ps₁ : List ℕ) : Type 0 where
  pub run : CallsRun x calls ns₀ ps₀ y ns₁ ps₁
  pub newest : Each HasNumber calls → EachNewest x calls (take (length calls) ns₁) y
  pub orders : Reorderable x calls → (others : List Call) → Reordered calls others → y ≡ (look_run x others).1
