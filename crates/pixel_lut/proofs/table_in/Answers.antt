use Rattle.std.proofs.Common.{◌≡◌, ℕ, ◌+◌, ◌*◌, ◌<◌, ◌≤◌, true, false, ◌||◌, eqb, leb, refl, ◌∙◌, arith, ne_eqb, le-leb}
use borrow.Author.Tests.{lt-leb}
use Rattle.pixel_lut.specs.Table.{table_in}
use Rattle.pixel_lut.proofs.table_in.Goals as goal
use Rattle.pixel_lut.proofs.table_in.Goals.{then-n-lt2-via-then-n-lt2, then-n-lt2-via-else-n-lt2+then-n-gt65536, then-columns-eq1-via-then-columns-eq1, then-columns-eq1-via-else-columns-eq1+then-columns-eq3}

-- a table of the carried shape is in the room if its last number is
counted : (room at n columns k : ℕ) → 2 ≤ n → n ≤ 65536 → columns ≡ k → (eqb k 1 || eqb k 3) ≡ true → leb (at + n * columns) room ≡ table_in room at n columns
unfolding table_in
counted room at n columns k a b e t = rw e (simp (le-leb 2 n a, le-leb n 65536 b, t))

few : (room at n columns : ℕ) → n < 2 → false ≡ table_in room at n columns
unfolding table_in
few room at n columns h = simp (lt-leb 2 n h)

many : (room at n columns : ℕ) → 2 ≤ n → 65536 < n → false ≡ table_in room at n columns
unfolding table_in
many room at n columns h k = simp (le-leb 2 n h, lt-leb n 65536 k)

other : (room at n columns : ℕ) → 2 ≤ n → n ≤ 65536 → (columns ≡ 1 → ⊥) → (columns ≡ 3 → ⊥) → false ≡ table_in room at n columns
unfolding table_in
other room at n columns h k p q = simp (le-leb 2 n h, le-leb n 65536 k, ne_eqb columns 1 p, ne_eqb columns 3 q)

pub returns-then-n-lt2 : goal.returns-then-n-lt2
returns-then-n-lt2 c = let a = c.args in elim c.then-n-lt2.branch [
  | then-n-lt2-via-then-n-lt2 w ↦ few a.room a.at a.n a.columns w.if-n-lt2.true
  | then-n-lt2-via-else-n-lt2+then-n-gt65536 w ↦ many a.room a.at a.n a.columns w.if-n-lt2.false w.if-n-gt65536.true
]

pub returns-then-columns-eq1 : goal.returns-then-columns-eq1
returns-then-columns-eq1 c =
    let a = c.args in
    c.fits.ensures ∙ elim c.then-columns-eq1.branch [
      | then-columns-eq1-via-then-columns-eq1 w ↦ counted a.room a.at a.n a.columns 1 (omega arith) (omega arith) w.if-columns-eq1.true refl
      | then-columns-eq1-via-else-columns-eq1+then-columns-eq3 w ↦ counted a.room a.at a.n a.columns 3 (omega arith) (omega arith) w.if-columns-eq3.true refl
    ]

pub returns : goal.returns
returns c = let a = c.args in other a.room a.at a.n a.columns (omega arith) (omega arith) c.if-columns-eq1.false c.if-columns-eq3.false
