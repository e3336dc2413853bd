-- What a field of a line is, and what number a word says. Assumes nothing.
use Rattle.std.specs.Prelude.{◌≤◌, ◌<◌, max, slice_index, Bool, true, false, cond, List, [], ◌∷◌, ℕ, ◌+◌, ◌-◌, ◌*◌, ◌^◌, min, eqb, ltb, length, drop}
use Prim.Native.Char.{code}
use Rattle.fields.specs.declared.Field.{Field}
use Rattle.std.specs.Prelude.{Option, Some, None}

-- r is the first place from `at` on whose byte passes a test, or the end of s: Tells b t says that the test of b answers t
pub record FirstFrom (Tells : ℕ → Bool → Type 0) (s : List ℕ) (at r : ℕ) : Type 0 where
  pub from : at ≤ r
  pub within : r ≤ max at (length s)
  pub before : (k : ℕ) → at ≤ k → k < r → k < length s → Tells (slice_index s k) false
  pub found : r < length s → Tells (slice_index s r) true

-- the place behind the spaces of l, which stands from `at` on
unfoldable pub behind_spaces : ℕ → List ℕ → ℕ
behind_spaces at [] = at
behind_spaces at (b ∷ l) = cond (eqb b (code " ")) (behind_spaces (at + 1) l) at

-- the place of the first space of l, which stands from `at` on, or its end
unfoldable pub before_space : ℕ → List ℕ → ℕ
before_space at [] = at
before_space at (b ∷ l) = cond (eqb b (code " ")) at (before_space (at + 1) l)

abbrev pub start_from : List ℕ → ℕ → ℕ
start_from s at = behind_spaces at (drop at s)

abbrev pub end_from : List ℕ → ℕ → ℕ
end_from s at = before_space at (drop at s)

-- the next field from `at` on
abbrev pub field_from : List ℕ → ℕ → Field
field_from s at = record { start = start_from s at; end = end_from s (start_from s at) }

-- n with the digit of the byte b more, or the largest number of 64 bits where that is larger
unfoldable pub with_digit : ℕ → ℕ → ℕ
with_digit n b = min (n * 10 + (b - code "0")) (2 ^ 64 - 1)

-- digits alone say a number
unfoldable pub number_from : ℕ → List ℕ → Option ℕ
number_from n [] = Some n
number_from n (b ∷ l) = cond (ltb b (code "0")) None (cond (ltb (code "9") b) None (number_from (with_digit n b) l))

-- the number of a word of digits; a word of no bytes says none
unfoldable pub word_number : List ℕ → Option ℕ
word_number s = cond (eqb (length s) 0) None (number_from 0 s)
