-- What reading, the file check and the Description answer, for the code's records.
use Rattle.process_list.specs.List.{Verdict, all_numbers}
use Rattle.std.specs.Prelude.{◌≡◌, ◌⊎◌, cond, ◌&&◌, List, [], ℕ, ◌-◌, ltb, leb}
use Rattle.process_list.specs.declared.Unfit.TheVariants as Unfits
use Rattle.process_list.specs.List as Lists
use Rattle.process_list.specs.declared.ProcessList.{ProcessList}
use Rattle.room.specs.Room.{Room, filled_with}
use Rattle.room.proofs.Rooms.{RoomFrom}
use Rattle.std.proofs.Common.{inl, inr, arith}
use Rattle.xml.specs.Code.{Scan, Failed}
use Rattle.std.specs.Prelude.{Result, Ok, Err}
use Rattle.xml.specs.declared.Stop.{Stop}
use Rattle.xml.specs.declared.Stop.TheVariants as Stops
use Rattle.clf.specs.Places.{node_span}
use Rattle.clf.specs.Reading.{Reading, accepted, faulty, unfit, nodes_in, most_bytes, description_asked}
use Rattle.file_text.specs.declared.ListStep.{ListStep}
use Rattle.file_text.specs.Code.{ListReads}
use Rattle.reading.specs.declared.Refused.{Refused}
use Rattle.refusals.specs.Refusals as Refusal

-- ---- what reading answers

-- a refusal of this number at this place
abbrev pub refused_at : {A : Type 0} → ℕ → ℕ → Result A Refused
refused_at k p = Err (record { number = k; place = p })

-- the refusal number of an answer, 0 where nothing is refused, and its place
abbrev pub number_of : {A : Type 0} → Result A Refused → ℕ
number_of (Ok a) = 0
number_of (Err why) = why.number

abbrev pub place_of : {A : Type 0} → Result A Refused → ℕ
place_of (Ok a) = 0
place_of (Err why) = why.place

-- whether a file is accepted, or why it is refused
abbrev pub Checked : Type 0
Checked = Result (Unit {0}) Refused

abbrev pub checked_of : Reading → Checked
checked_of (accepted l) = Ok tt
checked_of (faulty k p) = refused_at k p
checked_of (unfit k p) = refused_at k p

-- the list, or why the file is refused
abbrev pub Answer : Type 0
Answer = Result ProcessList Refused

-- an accepted reading answers its list: its nodes in file order, their numbers without gaps
unfoldable pub reading_answer : Reading → Answer
reading_answer (accepted l) = Ok (Lists.list_of (Lists.placed l))
reading_answer (faulty k p) = refused_at k p
reading_answer (unfit k p) = refused_at k p

-- the list that a reading leaves: 'A refused reading leaves an empty list'
abbrev pub list_read : Answer → ProcessList
list_read (Ok list) = list
list_read (Err why) = Lists.list_of []

-- the answer of a reading, and the whole of the lent room after it: the numbers in node order, 'the unused rest of the room is zero'; all of it where the reading is refused
pub record ReadsInto (reading : Reading) (r : Answer) (m₀ m₁ : Room) : Type 0 where
  pub answer : r ≡ reading_answer reading
  pub room : m₁ ≡ filled_with (all_numbers (nodes_in reading)) m₀

-- ---- what the small steps of the code do

-- bytes of this length that do not read
abbrev pub refused_stop : ℕ → Stop → Refused
refused_stop length (Stops.Fault k p) = record { number = k; place = p }
refused_stop length Stops.Cut = record { number = Refusal.cut_short; place = length }

-- 'over 16 MiB'
abbrev pub judged_length : ℕ → Checked
judged_length n = cond (ltb most_bytes n) (refused_at Refusal.too_long 0) (Ok tt)

abbrev pub judged_by : Verdict → Checked
judged_by = Lists.by_verdict (Ok tt) refused_at

abbrev pub judged_scan : ℕ → Scan → Checked → Checked
judged_scan length (Ok e) j = j
judged_scan length (Err x) j = Err (refused_stop length x)

unfoldable pub judged_step : ℕ → ListStep → ℕ → Checked
judged_step length r room =
    judged_scan length r.scan (judged_by (cond r.state.over (Err Unfits.TooManyNodes) (Lists.judged room (Lists.nodes_of r.state.list))))

-- the list of a reading, and the room after it: where it is refused, only the lengths of its slices are said
abbrev pub ListIn : Reading → Answer → Room → Room → Type 0
ListIn x (Ok list) m₀ m₁ = ReadsInto x (Ok list) m₀ m₁
ListIn x (Err why) m₀ m₁ = (checked_of x ≡ Err why) × RoomFrom 0 m₀ m₁

-- where the node begins whose Description is asked for
abbrev pub NodeAt : ℕ → List ℕ → Result ℕ Refused → Type 0
NodeAt k s (Ok start) = (checked_of (description_asked k s) ≡ Ok tt) × (start ≡ (node_span s (k - 1)).0)
NodeAt k s (Err why) = checked_of (description_asked k s) ≡ Err why

-- the node of the number k is asked for, of so many
abbrev pub asked_by : Checked → ℕ → ℕ → Checked
asked_by (Ok u) k count = cond (ltb 0 k && leb k count) (Ok tt) (refused_at Refusal.no_such_node 0)
asked_by (Err why) k count = Err why

-- a text read without room: some room of one number was lent
pub record TextAlone (wanted : ℕ) (s : List ℕ) (r : ListStep) : Type 0 where
  pub m₀ : Room
  pub m₁ : Room
  pub reads : ListReads wanted s r m₀ m₁

-- the arm of a `match` for every answer but a next place, by the tag of its case, which is 0 there
pub not_at : (tag : Scan → ℕ) → ((e : ℕ) → tag (Ok e) ≡ 0) → (r : Scan) → (tag r ≡ 1) ⊎ (tag r ≡ 2) → Failed r
not_at tag z (Ok e) (inl q) = omega (arith, z e)
not_at tag z (Ok e) (inr q) = omega (arith, z e)
not_at tag z (Err stop) h = tt
