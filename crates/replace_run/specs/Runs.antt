-- A run of calls of `replacing::replace` and `replacing::replace_numbered`, as the lent slices say them: what it answers and leaves. Definitions only.
use Rattle.std.specs.Prelude.{◌≡◌, cond, List, [], ◌∷◌, ◌++◌, map, ℕ, ◌-◌, ◌<◌, ltb, length, take, drop}
use Rattle.process_list.specs.File.{number_limit}
use Rattle.look.specs.Look.{Look}
use Rattle.look.specs.Replacing.{Replacing, Numbering, unnumbered, numbered, Call}
use Rattle.replacing.specs.Code as Replaces
use Rattle.claims.specs.LookRuns.{look_run}

-- ---- the calls that the lent slices say

-- the bytes from a up to b; an end behind the last byte is the end of the bytes, and where b is not behind a there are none
unfoldable pub call_part : List ℕ → ℕ → ℕ → List ℕ
call_part s a b = take (b - a) (drop a s)

-- a mark 'below 2^32' is the number of a numbered replacement; every other mark is that of an unnumbered one, which is never late
abbrev pub numbering_of : ℕ → Numbering
numbering_of m = cond (ltb m number_limit) (numbered m) unnumbered

abbrev pub marked_call : ℕ → ℕ → List ℕ → Call
marked_call k m e = record { node = k; numbering = numbering_of m; element = e }

-- the element of each call ends where `ends` says, and starts where the one before it ended, the first at a. There are as many calls as node numbers, marks, ends,
-- and places for an answer's number and its place, whichever are fewest
unfoldable pub calls_from : ℕ → List ℕ → List ℕ → List ℕ → List ℕ → List ℕ → List ℕ → List Call
calls_from a [] ms ends ns ps s = []
calls_from a (k ∷ ks) [] ends ns ps s = []
calls_from a (k ∷ ks) (m ∷ ms) [] ns ps s = []
calls_from a (k ∷ ks) (m ∷ ms) (b ∷ ends) [] ps s = []
calls_from a (k ∷ ks) (m ∷ ms) (b ∷ ends) (n ∷ ns) [] s = []
calls_from a (k ∷ ks) (m ∷ ms) (b ∷ ends) (n ∷ ns) (p ∷ ps) s = marked_call k m (call_part s a b) ∷ calls_from b ks ms ends ns ps s

-- ---- a run of calls: 'Each gets a node number, a new element, and the list and table room as the last call left them, never the file'

-- numbers and places of answers
abbrev pub numbers_said : List Replacing → List ℕ
numbers_said = map Replaces.replacing_number

abbrev pub places_said : List Replacing → List ℕ
places_said = map Replaces.replacing_place

-- the calls were made from the look x on: the answers' numbers and places stand at the start of two lent slices, whose rest is as it was, and the look y is left
pub record CallsRun (x : Look) (calls : List Call) (ns₀ ps₀ : List ℕ) (y : Look) (ns₁ ps₁ : List ℕ) : Type 0 where
  pub numbers : ns₁ ≡ numbers_said (look_run x calls).0 ++ drop (length calls) ns₀
  pub places : ps₁ ≡ places_said (look_run x calls).0 ++ drop (length calls) ps₀
  pub left : y ≡ (look_run x calls).1

-- ---- EVERY RUN CAN BE SAID, of any calls whose numbers are 'below 2^32' (`proofs/Said`: `every-run-said`): the theorems on what the slices say leave no run out

abbrev pub Below : Numbering → Type 0
Below unnumbered = Unit {0}
Below (numbered n) = n < number_limit

abbrev pub AllBelow : List Call → Type 0
AllBelow [] = Unit {0}
AllBelow (c ∷ cs) = Below c.numbering × AllBelow cs

-- slices that say these calls
pub record Said (calls : List Call) : Type 0 where
  pub ks : List ℕ
  pub marks : List ℕ
  pub ends : List ℕ
  pub numbers : List ℕ
  pub places : List ℕ
  pub elements : List ℕ
  pub is : calls_from 0 ks marks ends numbers places elements ≡ calls

abbrev pub EveryRunSaid : Type 0
EveryRunSaid = (calls : List Call) → AllBelow calls → Said calls
