-- The refusal numbers of a reading (document 01, Refusal numbers; document 02, W-203, W-204).
use Rattle.process_list.specs.List.{Element}
use Rattle.std.specs.Prelude.{◌≡◌, Bool, true, ◌||◌, List, ℕ, ◌≤◌, eqb, length}
use Rattle.decimal_read.specs.RightForm.{RightForm}
use Rattle.decimal_read.specs.Told.{Beyond}
use Rattle.grammar.specs.Parse.{done}
use Rattle.clf.specs.Numbers.{token}
use Rattle.clf.specs.Reading.{Reading, accepted, faulty, unfit}

-- the numbers of a fault in the text: 2, 3, 5 to 9, 21 and 22, 24 'for an id that is not 1 to 32 bytes of letters, digits, `-`, `_`, `.`' (02, W-203), and 25 'for a token of the right form
-- that is over 64 bytes or outside coefficient or power' (02, W-204)
abbrev pub is_text_fault : ℕ → Bool
is_text_fault k = eqb k 2 || (eqb k 3 || (eqb k 5 || (eqb k 6 || (eqb k 7 || (eqb k 8 || (eqb k 9 || (eqb k 21 || (eqb k 22 || (eqb k 24 || eqb k 25)))))))))

-- the numbers of a fault of the finished list: 10 to 13, and 23 'for an id seen on an earlier node, judged over the list' (02, W-203)
abbrev pub is_list_fault : ℕ → Bool
is_list_fault k = eqb k 10 || (eqb k 11 || (eqb k 12 || (eqb k 13 || eqb k 23)))

-- what a text of this length can answer: 1 at the length, a fault of the text at a byte of it or at its end, a fault of the list, or a list
pub data Answered (n : ℕ) : Reading → Type 0 where
  whole : (l : List Element) → Answered n (accepted l)
  short : Answered n (faulty 1 n)
  text : (k p : ℕ) → is_text_fault k ≡ true → p ≤ n → Answered n (faulty k p)
  list : (k p : ℕ) → is_list_fault k ≡ true → Answered n (unfit k p)

-- ---- 9 and 25 told apart (02, W-204)

-- the bytes r begin with a token of a byte at least, as reading takes it up to the white space or the `<` that ends it, of which P holds
pub record TokenWith (P : List ℕ → Type 0) (r : List ℕ) : Type 0 where
  pub bytes : List ℕ
  pub rest : List ℕ
  pub stands : token.run r ≡ done (tt, bytes) rest
  pub some : 1 ≤ length bytes
  pub holds : P bytes

-- what stands at the place of a fault with the number k, r being the bytes from there on. At a 9 'a token that is no number', its form is wrong; at a 25 'a token of the right form that is over
-- 64 bytes or outside coefficient or power'
pub record ToldApart (k : ℕ) (r : List ℕ) : Type 0 where
  pub malformed : k ≡ 9 → TokenWith (λ t. RightForm t → ⊥) r
  pub out_of_bounds : k ≡ 25 → TokenWith Beyond r
