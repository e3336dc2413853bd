-- Refusal 13 comes last (document 01, Refusal numbers: '12, 11, 10, 13', and 23 'before 13', document 02, W-203), so a reading into another room is the same but for 13. Assumes nothing.
use mathlib.Core.Path.{◌≡◌, refl, sym, ap, ◌∙◌}
use mathlib.Core.Bool.{Bool, true, false, cond}
use mathlib.Core.List.{List, map}
use Prim.Native.Nat.{ℕ, ◌≤◌, ◌<◌, min}
use native.Mathlib.Omega.{arith}
use lib.Dec.{ltb}
use lib.ListN.{length}
use borrow.Author.Tests.{lt-ltb, le-ltb, ltb-false}
use Rattle.process_list.specs.declared.Unfit.TheVariants.{TooManyNumbers}
use Rattle.std.proofs.Common.{Ok, Err}
use Rattle.process_list.specs.List.{Verdict, Element, node_of, total, judged, verdict, most_numbers}
use Rattle.process_list.proofs.RoomLast.{in_room, room-last}
use Rattle.grammar.specs.Parse.{Out, done, fault, cut}
use Rattle.grammar.specs.Laws.{nope}
use Rattle.clf.specs.List.{Document, document, tail}
use Rattle.clf.specs.Reading.{Reading, accepted, faulty, unfit, reading_by, list_reading, tail_reading, text_reading, read_text, read, most_bytes, nodes_among}

-- how many numbers the nodes have, by their kinds
abbrev pub number_count : List Element → ℕ
number_count l = total (map node_of l)

-- a reading for the most numbers, in a room of this length: 13, at 0, where that does not hold them
abbrev pub read_in : ℕ → Reading → Reading
read_in room (accepted l) = cond (ltb (min room most_numbers) (number_count l)) (unfit 13 0) (accepted l)
read_in room (faulty k p) = faulty k p
read_in room (unfit k p) = unfit k p

by-verdict : (room : ℕ) (l : List Element) (v : Verdict) → reading_by l (in_room room (number_count l) v) ≡ read_in room (reading_by l v)
by-verdict room l (Ok u) = by (ltb (min room most_numbers) (number_count l))
  where
    by : (t : Bool) → reading_by l (cond t (Err TooManyNumbers) (Ok tt)) ≡ cond t (unfit 13 0) (accepted l)
    by true = refl
    by false = refl
by-verdict room l (Err why) = refl

list-in : (room : ℕ) (l : List Element) → list_reading room l ≡ read_in room (list_reading most_numbers l)
unfolding list_reading verdict
list-in room l = ap (reading_by l) (room-last room (map node_of l)) ∙ by-verdict room l (judged most_numbers (map node_of l))

text_in : (room : ℕ) (s : List ℕ) (o : Out Document) → text_reading room s o ≡ read_in room (text_reading most_numbers s o)
text_in room s (done d r) = by (tail r)
  where
    by : (o : Out (Unit {0})) → tail_reading room s d o ≡ read_in room (tail_reading most_numbers s d o)
    by (done u q) = list-in room (nodes_among d.parts)
    by (fault k q) = refl
    by cut = refl
text_in room s (fault k r) = refl
text_in room s cut = refl

-- 13 comes last
pub read-last : (room : ℕ) (s : List ℕ) → read room s ≡ read_in room (read most_numbers s)
unfolding read read_text
read-last room s = by (ltb most_bytes (length s))
  where
    by : (b : Bool) → cond b (faulty 4 0) (text_reading room s (document.run s)) ≡ read_in room (cond b (faulty 4 0) (text_reading most_numbers s (document.run s)))
    by true = refl
    by false = text_in room s (document.run s)

fits_in : (room : ℕ) (l : List Element) → number_count l ≤ min room most_numbers → read_in room (accepted l) ≡ accepted l
fits_in room l h = ap (λ (t : Bool). cond t (unfit 13 0) (accepted l)) (le-ltb (min room most_numbers) (number_count l) h)

-- what is accepted in a room is accepted for the largest list, and has no more numbers than either holds
accepted-from : (room : ℕ) (x : Reading) (l : List Element) → read_in room x ≡ accepted l → (x ≡ accepted l) × (number_count l ≤ min room most_numbers)
accepted-from room (accepted m) l q = by (ltb (min room most_numbers) (number_count m)) refl q
  where
    by : (t : Bool) → ltb (min room most_numbers) (number_count m) ≡ t → cond t (unfit 13 0) (accepted m) ≡ accepted l → (accepted m ≡ accepted l) × (number_count l ≤ min room most_numbers)
    by true e z = nope cc
    by false e z = let v : m ≡ l = cc in (z, rw v at (ltb-false (min room most_numbers) (number_count m) e))
accepted-from room (faulty k p) l q = nope cc
accepted-from room (unfit k p) l q = nope cc

-- an accepted file has no more numbers than its room holds
pub accepted-fits : (room : ℕ) (s : List ℕ) (l : List Element) → read room s ≡ accepted l → number_count l ≤ min room most_numbers
accepted-fits room s l q = (accepted-from room (read most_numbers s) l (sym (read-last room s) ∙ q)).1

-- and is accepted, with the same nodes, in every room that holds its numbers
pub accepted-larger : (room other : ℕ) (s : List ℕ) (l : List Element) → read room s ≡ accepted l → number_count l ≤ other → read other s ≡ accepted l
accepted-larger room other s l q h =
    let a = accepted-from room (read most_numbers s) l (sym (read-last room s) ∙ q) in
    let b : min room most_numbers ≤ most_numbers = omega arith in
    read-last other s ∙ ap (read_in other) a.0 ∙ fits_in other l (omega (arith, a.1))

-- where the largest list is accepted, another room refuses it with 13 exactly if it is too small
pub refused-smaller : (room : ℕ) (s : List ℕ) (l : List Element) → read most_numbers s ≡ accepted l → min room most_numbers < number_count l → read room s ≡ unfit 13 0
refused-smaller room s l q h =
    read-last room s ∙ ap (read_in room) q ∙ ap (λ (t : Bool). cond t (unfit 13 0) (accepted l)) (lt-ltb (min room most_numbers) (number_count l) h)
