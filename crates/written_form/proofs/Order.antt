-- 'Writing: 16, 18, 17': which refusal is given where several could be. Assumes nothing.
use mathlib.Core.Path.{◌≡◌}
use mathlib.Core.Bool.{true, false}
use mathlib.Core.List.{List}
use Prim.Native.Nat.{ℕ}
use Rattle.process_list.specs.declared.ProcessList.{ProcessList}
use Rattle.room.specs.Room.{Room}
use Rattle.valid.specs.Valid.{is_valid, elements_of}
use Rattle.ids.specs.Ids.{id_right}
use Rattle.written_form.specs.Written.{joined, list_lines, most_id_bytes, refused, fitting, write_of}

module _ (l : ProcessList) (m : Room) (id : List ℕ) (out : ℕ) where
  -- 16 first, whatever the id and the output are
  pub list-first : is_valid l m ≡ false → write_of l m id out ≡ refused 16
  unfolding write_of
  list-first v = simp v

  -- then 18, however short the output is
  pub id-second : is_valid l m ≡ true → id_right most_id_bytes id ≡ false → write_of l m id out ≡ refused 18
  unfolding write_of
  id-second v i = simp (v, i)

  -- and 17 where nothing else is to be refused
  pub output-last : is_valid l m ≡ true → id_right most_id_bytes id ≡ true → write_of l m id out ≡ fitting out (joined (list_lines id (elements_of l m)))
  unfolding write_of
  output-last v i = simp (v, i)
