-- What is promised of the code: a list written out and read back, refusal 16 of every function that gives it, the file check beside reading, and a Description beside its number.
use Rattle.std.specs.Prelude.{◌≡◌, ◌↔◌, Bool, true, List, ℕ, ◌≤◌, Float, length, take, drop, Ok}
use Rattle.process_list.specs.File.{file_list}
use Rattle.process_list.specs.declared.ProcessList.{ProcessList}
use Rattle.process_list.specs.List.{all_numbers}
use Rattle.room.specs.Room.{Room, room_length, filled_with}
use Rattle.valid.specs.Valid.{is_valid}
use Rattle.clf.specs.Reading.{read, description_asked}
use Rattle.clf.specs.Description.{description_part, bytes_of}
use Rattle.reading.specs.Code.{Answer, number_of, place_of, checked_of, ReadsInto}
use Rattle.look.specs.Look.{Look, as_read, with_kept}
use Rattle.look.specs.Replacing.{Call}
use Rattle.replacing.specs.Code.{Outcome, look_of, Replaced}
use Rattle.claims.specs.Refusals.{ToldApart}
use Rattle.running.specs.Running.{Ran, ran_number, ran_of, pixels_of}
use Rattle.written_form.specs.Written.{output_of}
use Rattle.writing.specs.Writing.{Written, written_number, written_length, writing_answer}
use Rattle.reads_back.specs.declared.WrittenRead.{WrittenRead}
use Rattle.reads_back.specs.declared.CheckedRead.{CheckedRead}
use Rattle.reads_back.specs.declared.Described.{Described}
use Rattle.reads_back.specs.Back.{SomeReading, EqualRoom, elements_held, writing}

-- ---- 'a list written out reads back as that list'

-- a reading that is accepted and leaves the list and room x, by what a file says of them: each node has its id, and each kept number, 'read back', is 0
pub record ReadBack (x : Look) (r : Answer) (m₁ : Room) : Type 0 where
  pub answer : r ≡ Ok (file_list x.list)
  pub room : m₁ ≡ x.room

-- a reading that is accepted and leaves the list of x, and its numbers in the room that was m₀
pub record ReadIn (x : Look) (r : Answer) (m₀ m₁ : Room) : Type 0 where
  pub answer : r ≡ Ok (file_list x.list)
  pub room : m₁ ≡ filled_with (all_numbers (elements_held x)) m₀

-- list and room x written under an id into an output, and the text read into the room m₀: what both answer and leave, for all inputs; and, where the text was written, the list is back, by what
-- a file says of it, with its numbers in every room that holds them, and in equal room the very same room too
pub record WroteAndRead (x : Look) (id : List ℕ) (r : WrittenRead) (out₀ out₁ : List ℕ) (m₀ m₁ : Room) : Type 0 where
  pub wrote : r.wrote ≡ writing_answer (writing x id (length out₀))
  pub output : out₁ ≡ output_of (writing x id (length out₀)) out₀
  pub read : ReadsInto (read (room_length m₀) (take (written_length r.wrote) out₁)) r.answer m₀ m₁
  pub holds : written_number r.wrote ≡ 0 → length (all_numbers (elements_held x)) ≤ room_length m₀ → ReadIn x r.answer m₀ m₁
  pub back : written_number r.wrote ≡ 0 → EqualRoom x (look_of x.list m₀) → ReadBack x r.answer m₁

-- ---- 16, 'list and room are no accepted reading of any file into that room', both ways

-- whether list and room are some file's accepted reading: '16 ignores' the kept numbers, so that with any others the answer is the same
pub record IsReading (x : Look) (r : Bool) : Type 0 where
  pub both : (r ≡ true) ↔ SomeReading x
  pub ignores : (kept : List ℕ) → r ≡ is_valid (with_kept kept x).list x.room

-- a call on list and room answers this number: 16 exactly where no file's reading leaves them. So it is also where two nodes have one id, where an id has a byte that is none of 'letters, digits,
-- `-`, `_`, `.`', and where bytes behind an id's end are not zero (02, W-203)
abbrev pub Refuses16 : Look → ℕ → Type 0
Refuses16 x n = (n ≡ 16) ↔ (SomeReading x → ⊥)

pub record WriteRefuses (x : Look) (id : List ℕ) (r : Written) (out₀ out₁ : List ℕ) : Type 0 where
  pub answer : r ≡ writing_answer (writing x id (length out₀))
  pub output : out₁ ≡ output_of (writing x id (length out₀)) out₀
  pub refuses : Refuses16 x (written_number r)
  -- 'Files don't carry them': no text depends on a kept number
  pub unseen : writing x id (length out₀) ≡ writing (as_read x) id (length out₀)

pub record RunRefuses (x : Look) (r : Ran) (pixels₀ pixels₁ : List Float) : Type 0 where
  pub answer : r ≡ ran_of x.list x.room pixels₀
  pub pixels : pixels₁ ≡ pixels_of x.list x.room pixels₀
  pub refuses : Refuses16 x (ran_number r)
  -- nor does a pixel
  pub unseen : ran_of x.list x.room pixels₀ ≡ ran_of (as_read x).list (as_read x).room pixels₀
  pub unseen_pixels : pixels_of x.list x.room pixels₀ ≡ pixels_of (as_read x).list (as_read x).room pixels₀

-- a replacing call of either kind
pub record ReplaceRefuses (l : ProcessList) (m₀ : Room) (c : Call) (r : Outcome) (l₁ : ProcessList) (m₁ : Room) : Type 0 where
  pub leaves : Replaced l m₀ c r l₁ m₁
  pub refuses : Refuses16 (look_of l m₀) (number_of r)
  -- 9 and 25 told apart (02, W-204): such a token stands at the place, in the element
  pub told : ToldApart (number_of r) (drop (place_of r) c.element)

-- ---- the file check says what reading says, and both pass on what the number reader says
pub record CheckedAndRead (file : List ℕ) (r : CheckedRead) (m₀ m₁ : Room) : Type 0 where
  pub read : ReadsInto (read (room_length m₀) file) r.answer m₀ m₁
  pub number : number_of r.checked ≡ number_of r.answer
  pub place : place_of r.checked ≡ place_of r.answer
  -- 9 and 25 told apart (02, W-204): such a token stands at the place, in the file
  pub told : ToldApart (number_of r.answer) (drop (place_of r.answer) file)

-- ---- a Description: 'empty when there is none or the call is refused; its number .. is a second question'
pub record Describes (file : List ℕ) (k : ℕ) (r : Described) : Type 0 where
  pub checked : r.checked ≡ checked_of (description_asked k file)
  pub bytes : r.length ≡ length (bytes_of (description_part k file) file)
  pub none : (number_of r.checked ≡ 0 → ⊥) → r.length ≡ 0
  pub told : ToldApart (number_of r.checked) (drop (place_of r.checked) file)
