-- Laws of writing: its answer has the refusal number and the length that the written form says. Assumes nothing.
use Rattle.std.specs.Prelude.{◌≡◌, Bool, true, false, cond, List, ℕ, ltb, length}
use Rattle.std.proofs.Math.Path.{refl}
use Rattle.process_list.specs.declared.ProcessList.{ProcessList}
use Rattle.room.specs.Room.{Room}
use Rattle.ids.specs.Ids.{id_right}
use Rattle.valid.specs.Valid.{is_valid, elements_of}
use Rattle.written_form.specs.Written.{joined, list_lines, most_id_bytes, Writing, refused, written, fitting, write_of, writing_number, writing_length}
use Rattle.writing.specs.Writing.{writing_answer, written_number, written_length}

abbrev answered : List ℕ → Bool → Bool → Bool → Writing
answered text a b c = cond a (cond b (cond c (refused 17) (written text)) (refused 18)) (refused 16)

numbered : (text : List ℕ) (a b c : Bool) → written_number (writing_answer (answered text a b c)) ≡ writing_number (answered text a b c)
numbered text true true true = refl
numbered text true true false = refl
numbered text true false c = refl
numbered text false b c = refl

pub answer-number : (l : ProcessList) (m : Room) (id : List ℕ) (out : ℕ) → written_number (writing_answer (write_of l m id out)) ≡ writing_number (write_of l m id out)
unfolding write_of fitting
answer-number l m id out =
    let text : List ℕ = joined (list_lines id (elements_of l m)) in
    numbered text (is_valid l m) (id_right most_id_bytes id) (ltb out (length text))

pub answer-length : (w : Writing) → written_length (writing_answer w) ≡ writing_length w
answer-length (refused n) = refl
answer-length (written t) = refl
