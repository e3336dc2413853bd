-- A file run over pixels (document 01, 'What a pixel goes through'). Judged in this order: the slice's length (14), its values (15), then the file; what is
-- refused by the slice leaves pixels and room as they were, a refused reading leaves the pixels and zeroes the room.
use Rattle.std.specs.Prelude.{◌≡◌, Bool, cond, ◌||◌, List, ℕ, eqb, Float}
use Rattle.process_list.specs.List.{all_numbers, nodes_of, list_of, placed}
use Rattle.room.specs.Room.{Room, room_length, filled_with}
use Rattle.clf.specs.Reading.{Reading, read, nodes_in}
use Rattle.pixel_run.specs.Finite.{first_not_finite}
use Rattle.running.specs.Running.{not_threes, not_finite, run_nodes}
use Rattle.clf_c.specs.declared.FileCheck.{FileCheck}
use Rattle.clf_c.specs.Answers.{file_check_of}
use Rattle.refusals.specs.Refusals as Refusal

-- ---- the slice and the file, each for itself

-- 14, 'pixel slice not a multiple of three', or 15, 'pixel value NaN or infinite'
unfoldable pub slice_refused : List Float → Bool
slice_refused pixels = not_threes pixels || not_finite pixels

-- what is to be said of a file for this room
abbrev pub reading_for : List ℕ → Room → Reading
reading_for file m = read (room_length m) file

-- the room after the reading: the file's numbers, then zeros; refused, zeros alone
abbrev pub room_read : List ℕ → Room → Room
room_read file m = filled_with (all_numbers (nodes_in (reading_for file m))) m

-- the nodes of a reading's list over the pixels, with the numbers of this room; a refused reading has no nodes
unfoldable pub run_through : Reading → Room → List Float → List Float
run_through r m pixels = run_nodes m (nodes_of (list_of (placed (nodes_in r)))) pixels

-- ---- the call

abbrev pub check_saying : ℕ → ℕ → FileCheck
check_saying number place = record { number = number; place = place }

-- number and place: 'Running: .. 14, 15 (lowest index)', 'the place .. of 15, the index; .. of 14 .. 0'; then reading's own, 0 for accepted
unfoldable pub apply_of : List ℕ → Room → List Float → FileCheck
apply_of file m pixels = cond (not_threes pixels) (check_saying Refusal.not_threes 0) (cond (not_finite pixels) (check_saying Refusal.not_finite (first_not_finite pixels)) (file_check_of (reading_for file m)))

-- the room afterwards: 'Any other refusal changes nothing'
unfoldable pub room_applied : List ℕ → Room → List Float → Room
room_applied file m pixels = cond (slice_refused pixels) m (room_read file m)

-- the pixels afterwards: those of an accepted call have gone through every node in file order
unfoldable pub applied_to : List ℕ → Room → List Float → List Float
applied_to file m pixels = cond (eqb (apply_of file m pixels).number 0) (run_through (reading_for file m) (room_read file m) pixels) pixels

-- all that a call leaves: its answer r, the room m₁ and the pixels ys afterwards
pub record Applies (file : List ℕ) (m₀ : Room) (xs : List Float) (r : FileCheck) (m₁ : Room) (ys : List Float) : Type 0 where
  pub answers : r ≡ apply_of file m₀ xs
  pub room : m₁ ≡ room_applied file m₀ xs
  pub pixels : ys ≡ applied_to file m₀ xs
