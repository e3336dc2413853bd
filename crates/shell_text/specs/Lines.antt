-- What a command line is (tests/PROTOCOL.md). Definitions only.
use Rattle.std.specs.Prelude.{Bool, false, cond, ◌&&◌, List, [], ◌∷◌, ℕ, ◌+◌, eqb, ltb}
use Prim.Native.Char.{code}
use Rattle.std.specs.Prelude.{Option, None}
use Rattle.fields.specs.Fields.{field_from, word_number}
use Rattle.tags.specs.Code.{part_in}
use Rattle.shell_text.specs.Hex.{is_last}
use Rattle.refusals.specs.Refusals as Refusal

-- the command X, alone or with a space behind it
unfoldable pub is_run : List ℕ → Bool
is_run [] = false
is_run (x ∷ []) = eqb x (code "X")
is_run (x ∷ (b ∷ l)) = eqb x (code "X") && eqb b (code " ")

-- 'so is a `W` whose text .. is no longer than its OUTLEN may be': refused with 17 for less room than was asked for
unfoldable pub is_too_long : ℕ → ℕ → ℕ → Bool
is_too_long number room length = eqb number Refusal.short_output && ltb room length

-- the number in the last field from `at` on
unfoldable pub last_number : List ℕ → ℕ → Option ℕ
last_number s at = cond (is_last s at) (word_number (part_in s (field_from s at).start (field_from s at).end)) None

-- the place of the first line feed of l, which stands from `at` on, or its end
unfoldable pub line_end : ℕ → List ℕ → ℕ
line_end at [] = at
line_end at (b ∷ l) = cond (eqb b (code "\n")) at (line_end (at + 1) l)
