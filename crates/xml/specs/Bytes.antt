-- Bytes and words of XML. A byte is a number below 256.
use Rattle.std.specs.Prelude.{Bool, true, false, ◌&&◌, ◌||◌, List, [], ◌∷◌, ℕ, eqb, leb}
use Prim.Native.String as Text
use Prim.Native.String.{String}
use Prim.Native.Char.{code}

-- the bytes of a text of ASCII letters
abbrev pub bytes : String → List ℕ
bytes Text.[] = []
bytes (Text.◌∷◌ c s) = code c ∷ bytes s

-- whether two texts are the same, byte by byte
unfoldable pub same : List ℕ → List ℕ → Bool
same [] [] = true
same [] (c ∷ w) = false
same (b ∷ s) [] = false
same (b ∷ s) (c ∷ w) = eqb b c && same s w

-- 'white space (space, tab, CR, LF)'
unfoldable pub is_space : ℕ → Bool
is_space b = eqb b (code " ") || (eqb b (code "\n") || (eqb b (code "\t") || eqb b (code "\r")))

-- 'an ASCII letter'
unfoldable pub is_letter : ℕ → Bool
is_letter b = (leb (code "a") b && leb b (code "z")) || (leb (code "A") b && leb b (code "Z"))

unfoldable pub is_digit : ℕ → Bool
is_digit b = leb (code "0") b && leb b (code "9")

-- 'letters, digits, `_ : - .`'
unfoldable pub is_name_byte : ℕ → Bool
is_name_byte b = is_letter b || (is_digit b || (eqb b (code "_") || (eqb b (code ":") || (eqb b (code "-") || eqb b (code ".")))))

-- `"` or `'`: 'quotes single or double'
unfoldable pub is_quote : ℕ → Bool
is_quote b = eqb b (code "\"") || eqb b (code "'")

-- the bytes of markup
abbrev pub less_than : ℕ
less_than = code "<"

abbrev pub greater_than : ℕ
greater_than = code ">"

abbrev pub slash : ℕ
slash = code "/"

abbrev pub exclamation : ℕ
exclamation = code "!"

abbrev pub question : ℕ
question = code "?"

abbrev pub ampersand : ℕ
ampersand = code "&"

abbrev pub equals : ℕ
equals = code "="

abbrev pub dash : ℕ
dash = code "-"
