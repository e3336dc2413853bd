-- A look as it is kept: the list, and the table room. What a file says of it, the numbers kept with its nodes, what a replacing call answers for it, and what it leaves.
use Rattle.std.specs.Prelude.{cond, List, ℕ}
use Rattle.process_list.specs.declared.ProcessList.{ProcessList}
use Rattle.process_list.specs.File.{file_list, kept_numbers, keeping}
use Rattle.process_list.specs.List.{Element, placed, all_numbers, list_of}
use Rattle.room.specs.Room.{Room, room_length, filled_with}
use Rattle.valid.specs.Valid.{is_valid}
use Rattle.valid.specs.Valid as Valid
use Rattle.look.specs.Replacing.{Replacing, replaced, refused, Call, call, kept_after}
use Rattle.refusals.specs.Refusals as Refusal

pub record Look : Type 0 where
  pub list : ProcessList
  pub room : Room

-- how many numbers its room holds
abbrev pub room_length_of : Look → ℕ
room_length_of x = room_length x.room

-- ---- list and room by what a file says, and the kept numbers (02, W-208)

-- what a file says of list and room: the kept numbers are left out, that is, 0 as after a reading
abbrev pub as_read : Look → Look
as_read x = record { list = file_list x.list; room = x.room }

-- the numbers kept with its nodes, one for each of the list's 32 places
abbrev pub kept_of : Look → List ℕ
kept_of x = kept_numbers x.list

-- the same with these numbers kept
abbrev pub with_kept : List ℕ → Look → Look
with_kept kept x = record { list = keeping kept x.list; room = x.room }

-- these elements in the list as it is read, their numbers in the room 'without gaps, in node order'; 'the unused rest of the room is zero', and what a slice has behind the room stays
unfoldable pub holding : Look → List Element → Look
holding x es = record { list = list_of (placed es); room = filled_with (all_numbers es) x.room }

-- ---- a call: 16 first, for a look that is no accepted reading; then as the list alone says

unfoldable pub call_in : Look → Call → Replacing
call_in x c = cond (is_valid x.list x.room) (call (room_length_of x) (kept_of x) (Valid.elements_of x.list x.room) c) (refused Refusal.no_reading 0)

-- what a call leaves, by its answer: the new elements, with the kept numbers. 'Any other refusal changes nothing'
abbrev pub look_after : Look → Call → Replacing → Look
look_after x c (replaced es) = with_kept (kept_after (kept_of x) c (replaced es)) (holding x es)
look_after x c (refused n p) = x
