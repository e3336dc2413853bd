-- Laws of rows of numbers and of nodes, as the code puts them. Assumes nothing.
use mathlib.Core.Path.{◌≡◌, refl, sym, ap, ◌∙◌}
use mathlib.Core.List.{List, [], ◌∷◌, ◌++◌}
use Prim.Native.Nat.{ℕ, zero, suc, ◌+◌, ◌-◌, ◌*◌, ◌≤◌, ◌<◌}
use native.Mathlib.Omega.{arith}
use native.Mathlib.Nat.{le-mul_of_pos_right}
use lib.IntN.{ℤ, pos}
use lib.ListN.{take, drop}
use lib.Seq.{drop-cons, drop-drop, take-take, take-nil}
use Rattle.decimal.specs.declared.Decimal.{Decimal}
use Rattle.decimal_write.specs.Written.{written_of}
use Rattle.process_list.specs.List.{cube_entries, cube_numbers}
use Rattle.room.specs.Room.{Room, room_length}
use Rattle.valid.specs.Valid.{pairs, decimal_at, numbers_at}
use Rattle.text_out.specs.Output.{Goes}
use Rattle.text_out.proofs.Laws.{goes-start}
use Rattle.xml.specs.Bytes.{bytes}
use Rattle.written_form.proofs.Tail.{spaced_text, row_text, rows_text, value_text, range_text, pair_text, sop_text, sat_text}

-- ---- runs of numbers

pairs-none : (cs : List ℤ) → pairs cs [] ≡ []
unfolding pairs
pairs-none [] = refl
pairs-none (c ∷ cs) = refl

take-pairs : (n : ℕ) (cs ps : List ℤ) → take n (pairs cs ps) ≡ pairs (take n cs) (take n ps)
unfolding pairs
take-pairs zero cs ps = refl
take-pairs (suc n) [] ps = refl
take-pairs (suc n) (c ∷ cs) [] = refl
take-pairs (suc n) (c ∷ cs) (p ∷ ps) = ap (λ (l : List Decimal). record { coefficient = c; power = p } ∷ l) (take-pairs n cs ps)

drop-pairs : (n : ℕ) (cs ps : List ℤ) → drop n (pairs cs ps) ≡ pairs (drop n cs) (drop n ps)
unfolding pairs
drop-pairs zero cs ps = refl
drop-pairs (suc n) [] ps = refl
drop-pairs (suc n) (c ∷ cs) [] = sym (pairs-none (drop n cs))
drop-pairs (suc n) (c ∷ cs) (p ∷ ps) = drop-pairs n cs ps

drop-take : {A : Type 0} (n m : ℕ) (l : List A) → drop n (take (n + m) l) ≡ take m (drop n l)
drop-take zero m l = let e : zero + m ≡ m = omega arith in rw e
drop-take (suc n) m [] = let e : suc n + m ≡ suc (n + m) = omega arith in rw (e, take-nil)
drop-take (suc n) m (x ∷ l) = let e : suc n + m ≡ suc (n + m) = omega arith in rw e (drop-take n m l)

module _ (m : Room) where
  -- the first numbers of a run, and those behind them
  front : (k a b : ℕ) → take a (numbers_at m k (a + b)) ≡ numbers_at m k a
  unfolding numbers_at
  front k a b =
      let cs = m.coefficients in
      let ps = m.powers in
      let h : a ≤ a + b = omega arith in
      take-pairs a (take (a + b) (drop k cs)) (take (a + b) (drop k ps)) ∙ (rw (take-take a (a + b) (drop k cs) h, take-take a (a + b) (drop k ps) h))

  behind : (k a b : ℕ) → drop a (numbers_at m k (a + b)) ≡ numbers_at m (k + a) b
  unfolding numbers_at
  behind k a b =
      let cs = m.coefficients in
      let ps = m.powers in
      drop-pairs a (take (a + b) (drop k cs)) (take (a + b) (drop k ps))
      ∙ (rw (drop-take a b (drop k cs), drop-take a b (drop k ps), drop-drop a k cs, drop-drop a k ps))

  -- `count` numbers of a run, from its number k on
  pub some_at : (at n k count : ℕ) → k + count ≤ n → take count (drop k (numbers_at m at n)) ≡ numbers_at m (at + k) count
  some_at at n k count h =
      let e : n ≡ k + (count + (n - (k + count))) = omega arith in
      rw (e, behind at k (count + (n - (k + count)))) (front (at + k) count (n - (k + count)))

  -- one number, and those behind it
  more : (k n : ℕ) → k < room_length m → numbers_at m k (suc n) ≡ decimal_at m k ∷ numbers_at m (suc k) n
  unfolding numbers_at decimal_at pairs room_length
  more k n h = rw (drop-cons m.coefficients k (pos 0) (omega arith), drop-cons m.powers k (pos 0) (omega arith))

  none : (k : ℕ) → numbers_at m k 0 ≡ []
  unfolding numbers_at pairs
  none k = refl

  -- ---- a row
  pub spaced-start : (from count at : ℕ) (s : List ℕ) → Goes (spaced_text (numbers_at m from count)) (spaced_text (numbers_at m (from + 0) (count - 0))) at s s at
  spaced-start from count at s =
      let e : from + 0 ≡ from = omega arith in
      let d : count - 0 ≡ count = omega arith in
      rw (e, d) (goes-start (spaced_text (numbers_at m from count)) at s)

  module _ (from count : ℕ) (h : from + count ≤ room_length m) where
    pub spaced-next : (i : ℕ) → i < count → (t : List ℕ)
        → spaced_text (numbers_at m (from + i) (count - i)) t ≡ bytes " " ++ (written_of (decimal_at m (from + i)) ++ spaced_text (numbers_at m (from + (i + 1)) (count - (i + 1))) t)
    unfolding spaced_text
    spaced-next i j t =
        let e : count - i ≡ suc (count - (i + 1)) = omega arith in
        let d : from + (i + 1) ≡ suc (from + i) = omega arith in
        rw (e, d, more (from + i) (count - (i + 1)) (omega arith))

    pub spaced-last : (i : ℕ) → count ≤ i → (t : List ℕ) → spaced_text (numbers_at m (from + i) (count - i)) t ≡ t
    unfolding spaced_text
    spaced-last i j t = let e : count - i ≡ 0 = omega arith in rw (e, none (from + i))

    pub row-none : count ≡ 0 → (t : List ℕ) → row_text (numbers_at m from count) t ≡ t
    unfolding row_text
    row-none e t = rw (e, none from)

    pub row-some : 0 < count → (t : List ℕ) → row_text (numbers_at m from count) t ≡ written_of (decimal_at m from) ++ spaced_text (numbers_at m (from + 1) (count - 1)) t
    unfolding row_text
    row-some j t =
        let e : count ≡ suc (count - 1) = omega arith in
        let d : from + 1 ≡ suc from = omega arith in
        ap (λ (n : ℕ). row_text (numbers_at m from n) t) e ∙ (rw (d, more from (count - 1) (omega arith)))

  -- ---- rows
  pub rows_start : (from rows columns at : ℕ) (s : List ℕ)
      → Goes (rows_text rows columns (numbers_at m from (rows * columns))) (rows_text (rows - 0) columns (numbers_at m from ((rows - 0) * columns))) at s s at
  rows_start from rows columns at s =
      let e : rows - 0 ≡ rows = omega arith in
      rw e (goes-start (rows_text rows columns (numbers_at m from (rows * columns))) at s)

  pub rows_next : (k rows columns i : ℕ) → i < rows → (t : List ℕ)
      → rows_text (rows - i) columns (numbers_at m k ((rows - i) * columns)) t
      ≡ row_text (numbers_at m k columns) (bytes "\n" ++ rows_text (rows - (i + 1)) columns (numbers_at m (k + columns) ((rows - (i + 1)) * columns)) t)
  unfolding rows_text
  rows_next k rows columns i j t =
      let e : rows - i ≡ suc (rows - (i + 1)) = omega arith in
      let d : suc (rows - (i + 1)) * columns ≡ columns + (rows - (i + 1)) * columns = omega arith in
      rw (e, d, front k columns ((rows - (i + 1)) * columns), behind k columns ((rows - (i + 1)) * columns))

  pub rows_last : (k rows columns i : ℕ) → rows ≤ i → (t : List ℕ) → rows_text (rows - i) columns (numbers_at m k ((rows - i) * columns)) t ≡ t
  unfolding rows_text
  rows_last k rows columns i j t = let e : rows - i ≡ 0 = omega arith in rw e

  -- ---- the values of a Range and of an ASC_CDL
  first : (at n count : ℕ) → count ≤ n → take count (numbers_at m at n) ≡ numbers_at m at count
  first at n count h = let e : n ≡ count + (n - count) = omega arith in rw e (front at count (n - count))

  pub range-as : (from : ℕ) (t : List ℕ)
      → range_text (numbers_at m from 4) t
      ≡ value_text (bytes "minInValue") (numbers_at m from 1)
      (value_text (bytes "maxInValue") (numbers_at m (from + 1) 1)
      (value_text (bytes "minOutValue") (numbers_at m (from + 2) 1) (value_text (bytes "maxOutValue") (numbers_at m (from + 3) 1) t)))
  unfolding range_text
  range-as from t = rw (first from 4 1 (omega arith), some_at from 4 1 1 (omega arith), some_at from 4 2 1 (omega arith), some_at from 4 3 1 (omega arith))

  pub pair-as : (in_name out_name : List ℕ) (from : ℕ) (t : List ℕ)
      → pair_text in_name out_name (numbers_at m from 2) t ≡ value_text in_name (numbers_at m from 1) (value_text out_name (numbers_at m (from + 1) 1) t)
  unfolding pair_text
  pair-as in_name out_name from t = rw (first from 2 1 (omega arith), some_at from 2 1 1 (omega arith))

  pub sop-as : (from : ℕ) (t : List ℕ)
      → sop_text (numbers_at m from 10) t
      ≡ bytes "<SOPNode>\n" ++
      value_text (bytes "Slope") (numbers_at m from 3)
      (value_text (bytes "Offset") (numbers_at m (from + 3) 3) (value_text (bytes "Power") (numbers_at m (from + 6) 3) (bytes "</SOPNode>\n" ++ t)))
  unfolding sop_text
  sop-as from t = rw (first from 10 3 (omega arith), some_at from 10 3 3 (omega arith), some_at from 10 6 3 (omega arith))

  pub sat-as : (from : ℕ) (t : List ℕ)
      → sat_text (numbers_at m from 10) t ≡ bytes "<SatNode>\n" ++ value_text (bytes "Saturation") (numbers_at m (from + 9) 1) (bytes "</SatNode>\n" ++ t)
  unfolding sat_text
  sat-as from t = rw (some_at from 10 9 1 (omega arith))

pub rows_all : (from rows columns : ℕ) → from + (rows - 0) * columns ≡ from + rows * columns
rows_all from rows columns = let e : rows - 0 ≡ rows = omega arith in rw e

-- the entries of a cube are not more than its numbers, and those of a square not more than the cube's
pub cube-within : (from n most : ℕ) → from + cube_numbers n ≤ most → (n * n ≤ most) × (cube_entries n ≤ most)
cube-within from zero most h = (omega arith, omega arith)
cube-within from (suc n) most h =
    let p : 0 < suc n = omega arith in
    let s : suc n * suc n ≤ cube_entries (suc n) = le-mul_of_pos_right {m = suc n} (suc n * suc n) p in
    let k : cube_entries (suc n) ≤ most = omega arith in
    (omega arith, k)

-- the numbers that are left when a row has been put
pub rows_left : (rows columns i : ℕ) → i < rows → (rows - i) * columns ≡ columns + (rows - (i + 1)) * columns
rows_left rows columns i j =
    let e : rows - i ≡ suc (rows - (i + 1)) = omega arith in
    rw e (omega arith)
