-- Demand 2, 'a list written out reads back as that list', and refusal 16 of document 01, 'list and room are no accepted reading of any file into that room': what is proved of them, 'over lists
-- with ids' (02, W-203): a node's id is part of its element, and stands in the list.
use Rattle.std.specs.Prelude.{◌≡◌, ◌↔◌, true, List, ℕ, ◌≤◌, length}
use Rattle.process_list.specs.File.{file_list}
use Rattle.process_list.specs.List.{Element, most_nodes, all_numbers}
use Rattle.room.specs.Room.{beyond, filled_with}
use Rattle.valid.specs.Valid.{is_valid, elements_of}
use Rattle.clf.specs.Reading.{accepted, read}
use Rattle.look.specs.Look.{Look, room_length_of, as_read}
use Rattle.claims.specs.LookRuns.{read_into}
use Rattle.claims.specs.Rules.{Allowed}
use Rattle.written_form.specs.Written.{Writing, written, write_of}

-- ---- lists of elements

-- a file whose reading into a room of this length is accepted, with these elements for its list
abbrev pub ReadAs : ℕ → List ℕ → List Element → Type 0
ReadAs room file es = read room file ≡ accepted es

-- ---- list and room

-- 'list and room', of which a list is an array of 32 nodes
abbrev pub HasPlaces : Look → Type 0
HasPlaces x = length x.list.nodes ≡ most_nodes

-- 16 is not given
abbrev pub Valid : Look → Type 0
Valid x = is_valid x.list x.room ≡ true

-- the elements that list and room hold
abbrev pub elements_held : Look → List Element
elements_held x = elements_of x.list x.room

-- what writing answers for list and room, under an id, for an output of this length
abbrev pub writing : Look → List ℕ → ℕ → Writing
writing x id out = write_of x.list x.room id out

-- 'into equal room': of the same length, and the same behind it where one slice is longer than the other; list and room itself may hold anything
pub record EqualRoom (x y : Look) : Type 0 where
  pub room : room_length_of y ≡ room_length_of x
  pub behind : beyond y.room ≡ beyond x.room

-- reading the file into y is accepted, and leaves the list and room x, by what a file says of them
pub record ReadingLeaves (y : Look) (file : List ℕ) (x : Look) : Type 0 where
  pub nodes : List Element
  pub accepted : read (room_length_of y) file ≡ accepted nodes
  pub look : read_into y file ≡ as_read x

-- reading the file into y, a room that may be longer or shorter, is accepted, and leaves the list of x and its numbers in that room
pub record ReadingLeavesIn (y : Look) (file : List ℕ) (x : Look) : Type 0 where
  pub nodes : List Element
  pub accepted : read (room_length_of y) file ≡ accepted nodes
  pub list : (read_into y file).list ≡ file_list x.list
  pub room : (read_into y file).room ≡ filled_with (all_numbers (elements_held x)) y.room

-- 'list and room are [an] accepted reading of [some] file into that room', by what a file says of them: '16 ignores' the kept numbers
abbrev pub SomeReading : Look → Type 0
SomeReading x = (file : List ℕ) × ReadingLeaves x file x

-- DEMAND 2, its last part. Whatever text writing answers for list and room is accepted, and leaves this very list and room, by what a file says of them, when it is read into equal room: each node
-- has its id back, and the kept numbers, 'read back', are 0
abbrev pub WrittenReadsBack : Look → Type 0
WrittenReadsBack x = (id : List ℕ) (out : ℕ) (text : List ℕ) → writing x id out ≡ written text → (y : Look) → EqualRoom x y → ReadingLeaves y text x

-- the same in every room that holds the numbers: the same list, and its numbers
abbrev pub WrittenReadsIn : Look → Type 0
WrittenReadsIn x = (id : List ℕ) (out : ℕ) (text : List ℕ) → writing x id out ≡ written text → (y : Look) → length (all_numbers (elements_held x)) ≤ room_length_of y → ReadingLeavesIn y text x

-- REFUSAL 16, both ways: list and room pass exactly if, by what a file says of them, they are the accepted reading of some file into that room. So they do not where two nodes have one id, where
-- an id has a byte that is none of 'letters, digits, `-`, `_`, `.`', or where bytes behind an id's end are not zero (02, W-203): no reading leaves such a list
abbrev pub Refusal16 : Look → Type 0
Refusal16 x = Valid x ↔ SomeReading x

-- WHICH LISTS ARE READ: exactly those that keep the rules are the list of some file
abbrev pub ExactlyAllowed : ℕ → List Element → Type 0
ExactlyAllowed room es = Allowed room es ↔ ((file : List ℕ) × ReadAs room file es)
