-- An id as the text of an attribute, of a node or of ProcessList. Assumes nothing.
use mathlib.Core.Path.{◌≡◌, refl, ap}
use mathlib.Core.Bool.{true, false}
use mathlib.Core.List.{List, [], ◌∷◌}
use Prim.Native.Nat.{ℕ}
use native.Mathlib.Omega.{arith}
use Rattle.valid.specs.Valid.{every}
use Rattle.valid.proofs.Elements.{both_true}
use Rattle.valid.proofs.Readings.{every_made}
use Rattle.grammar.specs.Laws.{nope}
use Rattle.xml.specs.Bytes.{bytes, is_letter, is_digit, is_name_byte}
use Rattle.ids.specs.Ids.{is_id_byte, all_id_bytes, id_right}
use Rattle.ids.proofs.Laws.{right-bytes}
use Rattle.reads_back.proofs.Texts.{is_name}
use Rattle.reads_back.proofs.Tags.{in_quotes, quotes-by, quoted}

pub id-name : is_name (bytes "id") ≡ true
unfolding is_name is_name_byte is_letter is_digit every
id-name = refl

-- ---- its bytes end no text

id-big : (b : ℕ) → is_id_byte b ≡ true → (b ≡ 34 → ⊥) × (b ≡ 60 → ⊥) × (b ≡ 38 → ⊥)
unfolding is_id_byte is_letter is_digit
id-big b h = (λ e. no 34 e refl, λ e. no 60 e refl, λ e. no 38 e refl)
  where
    no : (k : ℕ) → b ≡ k → is_id_byte k ≡ false → ⊥
    no k e f = let z : ◌≡◌ {A = ℕ} 0 1 = nope (cc (ap is_id_byte e)) in omega arith

bytes-quoted : (id : List ℕ) → all_id_bytes id ≡ true → quoted id ≡ true
unfolding every all_id_bytes
bytes-quoted [] h = refl
bytes-quoted (b ∷ id) h =
    let p = both_true (is_id_byte b) (all_id_bytes id) h in
    let q = id-big b p.0 in
    every_made in_quotes b id (quotes-by b q.0 q.1 q.2) (bytes-quoted id p.1)

-- whatever its most bytes
pub id-quoted : (most : ℕ) (id : List ℕ) → id_right most id ≡ true → quoted id ≡ true
id-quoted most id h = bytes-quoted id (right-bytes most id h)
