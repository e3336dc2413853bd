-- A line as a command (tests/PROTOCOL.md): a letter, a space and fields parted by spaces; `X` may stand alone. Definitions only.
use Rattle.std.specs.Prelude.{◌≡◌, Bool, true, false, cond, ◌&&◌, ◌||◌, List, ℕ, eqb, ltb, leb, length, get_or}
use Prim.Native.Char.{code}
use Rattle.std.specs.Prelude.{Option, Some, None}
use Rattle.std.specs.Option.{option_and_then, option_map, option_map_or}
use Rattle.fields.specs.Fields.{field_from, word_number}
use Rattle.process_list.specs.File.{number_limit}
use Rattle.tags.specs.Code.{part_in}
use Rattle.fields.specs.declared.Field.{Field}
use Rattle.shell_text.specs.declared.Command.{Command}
use Rattle.shell_text.specs.declared.Numbers.{Numbers}
use Rattle.shell_text.specs.declared.Form.{Form}
use Rattle.shell_text.specs.declared.Form.TheVariants.{Bytes, Numbered, Fed, Named}
use Rattle.shell_text.specs.Hex.{part_of, part_left, last_of, last_left}
use Rattle.shell_text.specs.Lines.{is_run, last_number}

-- the command X: its words are read by themselves
abbrev pub running : Command
running = record { letter = code "X"; number = 0; feed = 0; start = 0; end = 0 }

-- a letter, a number and the feed's number, with the bytes of a field
abbrev pub with_bytes : ℕ → ℕ → ℕ → Field → Command
with_bytes letter number feed f = record { letter = letter; number = number; feed = feed; start = f.start; end = f.end }

-- the same where the field's bytes are hex; 'A line that is none of these is answered `?`'
abbrev pub command_by : ℕ → ℕ → ℕ → Option Field → Option Command
command_by letter number feed f = option_map (with_bytes letter number feed) f

-- the number in the field from `at` on, with the place behind the field
abbrev pub numbered : ℕ → ℕ → Numbers
numbered end n = record { number = n; feed = 0; end = end }

unfoldable pub number_at : List ℕ → ℕ → Option Numbers
number_at s at = option_map (numbered (field_from s at).end) (word_number (part_in s (field_from s at).start (field_from s at).end))

-- the number k, and behind it the feed's: 'NUMBER is a decimal number below 2^32'
unfoldable pub with_feed : ℕ → Numbers → Option Numbers
with_feed k x = cond (ltb x.number number_limit) (Some (record { number = k; feed = x.number; end = x.end })) None

-- the feed's number stands behind the first
unfoldable pub feed_behind : List ℕ → Option Numbers → Option Numbers
feed_behind s first = option_and_then (λ x. option_and_then (with_feed x.number) (number_at s x.end)) first

-- the numbers before the bytes, by what the letter asks for: `C HEX`, `K HEX`; `R ROOM HEX`, `P K HEX`, `D K HEX`; `N K NUMBER HEX`
unfoldable pub line_numbers : Form → List ℕ → Option Numbers
line_numbers Bytes s = Some (numbered 2 0)
line_numbers Numbered s = number_at s 2
line_numbers Fed s = feed_behind s (number_at s 2)
line_numbers Named s = None

-- the numbers and the bytes behind them, which are the last field; and the line afterwards, in which the bytes stand decoded
abbrev pub behind_of : ℕ → List ℕ → Numbers → Option Command
behind_of letter s x = command_by letter x.number x.feed (last_of s x.end)

abbrev pub behind_left : List ℕ → Numbers → List ℕ
behind_left s x = last_left s x.end

-- the first field behind the letter and its space
abbrev pub first_start : List ℕ → ℕ
first_start s = (field_from s 2).start

abbrev pub first_end : List ℕ → ℕ
first_end s = (field_from s 2).end

-- `W IDHEX OUTLEN`
unfoldable pub under_of : ℕ → List ℕ → Option Command
under_of letter s = option_and_then (λ n. command_by letter n 0 (part_of s (first_start s) (first_end s))) (last_number s (first_end s))

unfoldable pub under_left : List ℕ → List ℕ
under_left s = option_map_or (λ n. part_left s (first_start s) (first_end s)) (last_number s (first_end s)) s

-- an id and a number are asked for, in place of numbers and bytes
unfoldable pub is_named : Form → Bool
is_named Named = true
is_named Bytes = false
is_named Numbered = false
is_named Fed = false

-- what a letter asks of its line: bytes alone, a number and bytes, two numbers and bytes, or an id and a number
unfoldable pub form_of : ℕ → Option Form
form_of letter =
    cond (eqb letter (code "C") || eqb letter (code "K")) (Some Bytes)
    (cond (eqb letter (code "R") || (eqb letter (code "P") || eqb letter (code "D"))) (Some Numbered)
    (cond (eqb letter (code "N")) (Some Fed)
    (cond (eqb letter (code "W")) (Some Named) None)))

-- a line with a letter, by what that asks for
unfoldable pub shaped_of : Form → ℕ → List ℕ → Option Command
shaped_of f letter s = cond (is_named f) (under_of letter s) (option_and_then (behind_of letter s) (line_numbers f s))

unfoldable pub shaped_left : Form → List ℕ → List ℕ
shaped_left f s = cond (is_named f) (under_left s) (option_map_or (behind_left s) (line_numbers f s) s)

-- a letter and a space at least
unfoldable pub is_lettered : List ℕ → Bool
is_lettered s = leb 2 (length s) && eqb (get_or s 1 0) (code " ")

unfoldable pub command_of : List ℕ → Option Command
command_of s = cond (is_run s) (Some running) (cond (is_lettered s) (option_and_then (λ f. shaped_of f (get_or s 0 0) s) (form_of (get_or s 0 0))) None)

unfoldable pub command_left : List ℕ → List ℕ
command_left s = cond (is_run s) s (cond (is_lettered s) (option_map_or (λ f. shaped_left f s) (form_of (get_or s 0 0)) s) s)

-- r and the line s' are these
pub record Says (says : Option Command) (line : List ℕ) (r : Option Command) (s' : List ℕ) : Type 0 where
  pub command : r ≡ says
  pub left : s' ≡ line
