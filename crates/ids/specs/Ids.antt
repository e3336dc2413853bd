-- Ids: of a node (document 02, W-203), and the one a list is written under (document 01, refusal 18). Definitions only.
use Rattle.std.specs.Prelude.{Bool, true, false, cond, not, ◌&&◌, ◌||◌, List, [], ◌∷◌, ◌++◌, ℕ, ◌+◌, ◌-◌, eqb, leb, length, take, replicate}
use Prim.Native.Char.{code}
use Rattle.xml.specs.Bytes.{same, is_letter, is_digit}

-- ---- which texts are ids

-- 'letters, digits, `-`, `_`, `.`'
unfoldable pub is_id_byte : ℕ → Bool
is_id_byte b = is_letter b || (is_digit b || (eqb b (code "_") || (eqb b (code "-") || eqb b (code "."))))

unfoldable pub all_id_bytes : List ℕ → Bool
all_id_bytes [] = true
all_id_bytes (b ∷ t) = is_id_byte b && all_id_bytes t

-- '1 to 32 bytes of letters, digits, `-`, `_`, `.`' of a node, and '1 to 64' for writing: `most` is the larger number
unfoldable pub id_right : ℕ → List ℕ → Bool
id_right most t = leb 1 (length t) && leb (length t) most && all_id_bytes t

-- '1 to 32 bytes', of a node's id (for writing it is 64: `written_form`)
abbrev pub most_node_id_bytes : ℕ
most_node_id_bytes = 32

-- the id of a node as a list of bytes: none ('A node without one stays legal'), or a right one
unfoldable pub id_allowed : List ℕ → Bool
id_allowed [] = true
id_allowed (b ∷ t) = id_right most_node_id_bytes (b ∷ t)

-- ---- how a node holds its id: 32 places, the bytes of the id first, zeros in the rest; all zero without one. 0 is no byte of an id

-- an id of at most 32 bytes in its places; of a longer text, which is no id of a node, the first 32 bytes
unfoldable pub held_id : List ℕ → List ℕ
held_id t = take most_node_id_bytes t ++ replicate (most_node_id_bytes - length t) 0

-- no id
unfoldable pub no_id : List ℕ
no_id = held_id []

-- the bytes of the id that stands in these places: those before the first zero
unfoldable pub id_text : List ℕ → List ℕ
id_text [] = []
id_text (b ∷ t) = let more : List ℕ = id_text t in cond (eqb b 0) [] (b ∷ more)

-- whether the places hold what `held_id` leaves there: nothing but zeros behind the id
unfoldable pub is_held : List ℕ → Bool
is_held places = same places (held_id (id_text places))

-- whether an id stands in the places
unfoldable pub is_given : List ℕ → Bool
is_given [] = false
is_given (b ∷ t) = not (eqb b 0)

-- ---- 'an id seen on an earlier node'

-- whether this id is among those, compared byte by byte
unfoldable pub is_among : List ℕ → List (List ℕ) → Bool
is_among id [] = false
is_among id (seen ∷ ids) = same id seen || is_among id ids

-- the number, from k on, of the first id that was seen on an earlier node, of which `before` are the ids; 0 where there is none. A node without an id has none that could be seen again
unfoldable pub repeats : ℕ → List (List ℕ) → List (List ℕ) → ℕ
repeats k before [] = 0
repeats k before (id ∷ ids) = let more : ℕ = repeats (k + 1) (before ++ (id ∷ [])) ids in cond (is_given id && is_among id before) k more
