-- Bytes as hex digits (tests/PROTOCOL.md): 'HEX is lowercase hex digits, two a byte, `-` for no bytes'. Definitions only.
use Rattle.std.specs.Prelude.{◌≡◌, Bool, cond, ◌&&◌, ◌||◌, List, [], ◌∷◌, ◌++◌, ℕ, ◌+◌, ◌-◌, ◌*◌, ◌/◌, ◌%◌, eqb, ltb, leb, length, take, drop, get_or}
use Prim.Native.Char.{code}
use Rattle.std.specs.Prelude.{Option, Some, None}
use Rattle.std.specs.Option.{option_and_then, option_map, option_map_or}
use Rattle.fields.specs.declared.Field.{Field}
use Rattle.fields.specs.Fields.{field_from}

-- the value of a digit, `0` to `9` and `a` to `f`; another byte has none
unfoldable pub digit_of : ℕ → Option ℕ
digit_of b =
    cond (leb (code "0") b && leb b (code "9")) (Some (b - code "0"))
    (cond (leb (code "a") b && leb b (code "f")) (Some (10 + (b - code "a"))) None)

-- the digit of a value; `?` from 16 on
unfoldable pub glyph_of : ℕ → ℕ
glyph_of d = cond (ltb d 10) (code "0" + d) (cond (ltb d 16) (code "a" + (d - 10)) (code "?"))

-- the two digits of a byte, the higher first
unfoldable pub pair_text : ℕ → List ℕ
pair_text b = glyph_of (b / 16) ∷ glyph_of (b % 16) ∷ []

-- the byte of two digits; none where one of them is no digit
unfoldable pub joined_of : ℕ → ℕ → Option ℕ
joined_of high low = option_and_then (λ h. option_map (λ l. h * 16 + l) (digit_of low)) (digit_of high)

-- the bytes of a word, two digits each, up to the first two that are not both digits
unfoldable pub bytes_of : List ℕ → List ℕ
bytes_of [] = []
bytes_of (h ∷ []) = []
bytes_of (h ∷ (l ∷ w)) = option_map_or (λ b. b ∷ bytes_of w) (joined_of h l) []

-- a word w decoded in place: its bytes, then the rest of the word as it was; n is how many bytes they are
pub record Decodes (w w' : List ℕ) (n : ℕ) : Type 0 where
  pub bytes : w' ≡ bytes_of w ++ drop (length (bytes_of w)) w
  pub count : n ≡ length (bytes_of w)

-- the bytes of the line s from a up to e
abbrev pub word_at : List ℕ → ℕ → ℕ → List ℕ
word_at s a e = take (e - a) (drop a s)

-- the part is `-` alone: no bytes
unfoldable pub is_none : List ℕ → ℕ → ℕ → Bool
is_none s a e = eqb (e - a) 1 && eqb (get_or s a 0) (code "-")

-- where the bytes of the line's part from a up to e stand when they are decoded: `-` alone is no bytes, else all of it has to be pairs of digits; an empty part, or one that is none of the line's, has none
unfoldable pub part_of : List ℕ → ℕ → ℕ → Option Field
part_of s a e =
    cond (ltb (length s) e || leb e a) None
    (cond (is_none s a e) (Some (record { start = a; end = a }))
    (cond (eqb (length (bytes_of (word_at s a e)) * 2) (e - a)) (Some (record { start = a; end = a + length (bytes_of (word_at s a e)) })) None))

-- the line afterwards: the part's bytes stand at its start
unfoldable pub part_left : List ℕ → ℕ → ℕ → List ℕ
part_left s a e =
    cond (ltb (length s) e || leb e a) s
    (cond (is_none s a e) s
    (take a s ++ (bytes_of (word_at s a e) ++ drop (a + length (bytes_of (word_at s a e))) s)))

pub record DecodesPart (s : List ℕ) (a e : ℕ) (s' : List ℕ) (r : Option Field) : Type 0 where
  pub says : r ≡ part_of s a e
  pub line : s' ≡ part_left s a e

-- the last field from `at` on: no other field may stand behind it
abbrev pub is_last : List ℕ → ℕ → Bool
is_last s at = leb (field_from s (field_from s at).end).end (field_from s (field_from s at).end).start

unfoldable pub last_of : List ℕ → ℕ → Option Field
last_of s at = cond (is_last s at) (part_of s (field_from s at).start (field_from s at).end) None

unfoldable pub last_left : List ℕ → ℕ → List ℕ
last_left s at = cond (is_last s at) (part_left s (field_from s at).start (field_from s at).end) s

pub record DecodesLast (s : List ℕ) (at : ℕ) (s' : List ℕ) (r : Option Field) : Type 0 where
  pub says : r ≡ last_of s at
  pub line : s' ≡ last_left s at
