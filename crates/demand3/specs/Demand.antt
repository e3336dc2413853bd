-- Demand 3 of the code: a file is read by `reading::read`, then any run of calls of `replacing::replace` and `replacing::replace_numbered` is made: what is promised of the whole run.
use Rattle.std.specs.Prelude.{◌≡◌, List, ℕ, length, take}
use Rattle.process_list.specs.File.{file_list}
use Rattle.process_list.specs.List.{all_numbers, list_of, placed}
use Rattle.room.specs.Room.{Room, room_length, filled_with}
use Rattle.clf.specs.Reading.{nodes_in, read}
use Rattle.reading.specs.Code.{checked_of, number_of}
use Rattle.look.specs.Look.{Look}
use Rattle.look.specs.Replacing.{Call}
use Rattle.replacing.specs.Code.{look_of}
use Rattle.claims.specs.TriedFile.{file_run, AllInElement, Small}
use Rattle.claims.specs.LookRuns.{read_into, fresh}
use Rattle.replace_run.specs.Runs.{numbers_said, places_said, CallsRun}
use Rattle.demand3.specs.declared.RunRead.{RunRead}

-- DEMAND 3, for the file s read into the room m₀, and a run of calls whose answers have these numbers and places and that left the look y: the answers are those of the tried files,
-- each fault of a tried file stands in the element; and, 'the kept numbers left out of what is compared', 'list and room equal a fresh reading, into equal room, of the file with every accepted
-- element in place and the refused ones ignored'
pub record Demand3 (s : List ℕ) (m₀ : Room) (calls : List Call) (ns ps : List ℕ) (y : Look) : Type 0 where
  pub numbers : ns ≡ numbers_said (file_run (read (room_length m₀)) (fresh s) calls).0
  pub places : ps ≡ places_said (file_run (read (room_length m₀)) (fresh s) calls).0
  pub in_element : AllInElement (read (room_length m₀)) (fresh s) calls
  pub list : file_list y.list ≡ list_of (placed (nodes_in (read (room_length m₀) (file_run (read (room_length m₀)) (fresh s) calls).1.file)))
  pub room : y.room ≡ filled_with (all_numbers (nodes_in (read (room_length m₀) (file_run (read (room_length m₀)) (fresh s) calls).1.file))) m₀

-- THE PROMISE of a reading and a run of calls, for every file, room and calls: what reading answers; the whole run, from what the reading leaves (whatever list was there before it); and, where
-- the file is accepted and 'each file so tried is at most 16 MiB', demand 3
pub record ReadAndReplaced (s : List ℕ) (calls : List Call) (r : RunRead) (m₀ m₁ : Room) (ns₀ ns₁ ps₀ ps₁ : List ℕ) : Type 0 where
  pub answer : r.read ≡ checked_of (read (room_length m₀) s)
  pub run : CallsRun (read_into (look_of r.list m₀) s) calls ns₀ ps₀ (look_of r.list m₁) ns₁ ps₁
  pub demand3 : number_of r.read ≡ 0 → Small (read (room_length m₀)) (fresh s) calls → Demand3 s m₀ calls (take (length calls) ns₁) (take (length calls) ps₁) (look_of r.list m₁)
