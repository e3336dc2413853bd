-- What C gets (document 01, Description and player): 'number and place'; and for a reading the counts of its list.
use Rattle.process_list.specs.List.{all_numbers}
use Rattle.std.specs.Prelude.{◌≡◌, List, ℕ}
use Rattle.room.specs.Room.{Room, room_length, filled_with}
use Rattle.clf.specs.Reading.{Reading, reading_number, reading_place, nodes_in, read}
use Rattle.reading.specs.Counts.{node_count, number_count}
use Rattle.clf_c.specs.declared.FileCheck.{FileCheck}
use Rattle.clf_c.specs.declared.FileRead.{FileRead}

abbrev pub file_check_of : Reading → FileCheck
file_check_of r = record { number = reading_number r; place = reading_place r }

abbrev pub file_read_of : Reading → FileRead
file_read_of r = record { number = reading_number r; place = reading_place r; nodes = node_count r; numbers = number_count r }

-- all that a reading leaves for C: its answer r, and the room m₁
pub record FileReads (file : List ℕ) (r : FileRead) (m₀ m₁ : Room) : Type 0 where
  pub answer : r ≡ file_read_of (read (room_length m₀) file)
  pub room : m₁ ≡ filled_with (all_numbers (nodes_in (read (room_length m₀) file))) m₀
