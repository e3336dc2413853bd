-- What the code of writing answers.
use Rattle.std.specs.Prelude.{◌≡◌, List, ℕ, cond, eqb, length, Result, Ok, Err}
use Rattle.refusals.specs.Refusals as Refusal
use Rattle.room.specs.Room.{laid}
use Rattle.text_out.specs.Output.{counted}
use Rattle.written_form.specs.Written.{Writing, refused, written}
use Rattle.writing.specs.declared.WriteFault.{WriteFault}
use Rattle.writing.specs.declared.WriteFault.TheVariants.{NoReading, WrongId, ShortOutput}

-- what writing answers: how many bytes the text has, or why it is not written
abbrev pub Written : Type 0
Written = Result ℕ WriteFault

-- the refusal number of each
abbrev pub fault_number : WriteFault → ℕ
fault_number NoReading = Refusal.no_reading
fault_number WrongId = Refusal.wrong_id
fault_number ShortOutput = Refusal.short_output

-- the reason with this number, of 16, 18 and 17: the refusals of writing have no others (`write_of`)
abbrev pub fault_of : ℕ → WriteFault
fault_of n = cond (eqb n Refusal.no_reading) NoReading (cond (eqb n Refusal.wrong_id) WrongId ShortOutput)

abbrev pub writing_answer : Writing → Written
writing_answer (refused n) = Err (fault_of n)
writing_answer (written t) = Ok (length t)

-- the refusal number, 0 for accepted, and how many bytes the text has, none where it is refused
abbrev pub written_number : Written → ℕ
written_number (Ok n) = 0
written_number (Err f) = fault_number f

abbrev pub written_length : Written → ℕ
written_length (Ok n) = n
written_length (Err f) = 0

-- the text x stands in s from its start on, as far as s goes: that is s'; and r is the text's length.
-- (`counted` holds it within a usize. The text of a valid list under a right id is shorter than 16 MiB, so that its length is never cut)
pub record Wrote (x s s' : List ℕ) (r : ℕ) : Type 0 where
  pub bytes : s' ≡ laid (length s) 0 x s
  pub size : r ≡ counted (length x)
  pub kept : length s' ≡ length s
