-- What a text's answer says of every longer text. The sentences of document 01 on cut names, tokens, `&` forms, comments and end tags ('is cut short and not judged') serve this:
-- a cut text answers 1 at its length, or what every longer text answers.
use Rattle.process_list.specs.List.{Element}
use Rattle.std.specs.Prelude.{◌≡◌, true, List, ◌++◌, ℕ, ◌≤◌, length}
use Rattle.clf.specs.Reading.{faulty, list_reading, read_text}
use Rattle.claims.specs.Refusals.{is_text_fault}
use Rattle.refusals.specs.Refusals as Refusal

-- more bytes t behind a text without fault, whose nodes are l: the same list, or a fault of the text, which is not placed before t
pub data Behind (room : ℕ) (s : List ℕ) (l : List Element) (t : List ℕ) : Type 0 where
  same : read_text room (s ++ t) ≡ list_reading room l → Behind room s l t
  later : (k p : ℕ) → length s ≤ p → read_text room (s ++ t) ≡ faulty k p → Behind room s l t

-- the answer for a text, and for every longer one
pub data Longer (room : ℕ) (s : List ℕ) : Type 0 where
  -- 'bytes end inside something unfinished or before the root': 1, its place the length
  short : read_text room s ≡ faulty Refusal.cut_short (length s) → Longer room s
  -- a fault of the text, whose number is not 1: the same number and place, whatever follows
  at_fault : (k p : ℕ) → is_text_fault k ≡ true → read_text room s ≡ faulty k p → ((t : List ℕ) → read_text room (s ++ t) ≡ faulty k p) → Longer room s
  -- no fault in the text: the list is judged
  sound : (l : List Element) → read_text room s ≡ list_reading room l → ((t : List ℕ) → Behind room s l t) → Longer room s
