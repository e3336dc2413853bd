-- The words of the command X (tests/PROTOCOL.md): 'each WORD is the 16 hex digits of an f64's bits', 'every NaN is `7ff8000000000000`'. Definitions only.
use Rattle.std.specs.Prelude.{cond, List, [], ◌∷◌, ◌++◌, ℕ, zero, suc, ◌+◌, ◌*◌, ◌/◌, ◌%◌, eqb, length, Float}
use Rattle.std.specs.Float.{binary64}
use Rattle.std.specs.Float.Ieee.{to_bits}
use Rattle.xml.specs.Bytes.{bytes}
use Rattle.std.specs.Prelude.{Option, Some, None}
use Rattle.std.specs.Option.{option_and_then}
use Rattle.shell_text.specs.Hex.{digit_of, glyph_of}

-- the lower 60 bits of n moved up by four, and the digit d below them (1152921504606846976 is 2 to the power 60)
abbrev pub with_digit : ℕ → ℕ → ℕ
with_digit n d = n % 1152921504606846976 * 16 + d

-- the digits of a word, behind those that say n
unfoldable pub bits_from : ℕ → List ℕ → Option ℕ
bits_from n [] = Some n
bits_from n (b ∷ w) = option_and_then (λ d. bits_from (with_digit n d) w) (digit_of b)

unfoldable pub bits_of : List ℕ → Option ℕ
bits_of w = cond (eqb (length w) 16) (bits_from 0 w) None

-- so many digits, the first for the highest four bits of n
unfoldable pub top_digits : ℕ → ℕ → List ℕ
top_digits zero n = []
top_digits (suc k) n = glyph_of (n / 1152921504606846976 % 16) ∷ top_digits k (n % 1152921504606846976 * 16)

unfoldable pub bits_text : ℕ → List ℕ
bits_text n = top_digits 16 n

-- the word of a number, a space before it: `to_bits` writes every NaN as 7ff8000000000000
unfoldable pub word_text : Float → List ℕ → List ℕ
word_text x t = bytes " " ++ (bits_text (to_bits binary64 x) ++ t)
