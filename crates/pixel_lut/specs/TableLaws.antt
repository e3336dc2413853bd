-- What `table_in` says, and a LUT1D's pixel between the bounds of its columns. Assumes nothing.
use Rattle.std.specs.Prelude.{◌≡◌, ℕ, ◌+◌, ◌*◌, ◌<◌, ◌≤◌, Bool, true, false, ◌&&◌, ◌||◌, T, ◌==◌, nat_le, refl, Float}
use Rattle.std.proofs.Common.{sym, subst, arith, leb-true, eqb-true}
use Rattle.pixel.specs.declared.Pixel.{Pixel}
use Rattle.pixel.specs.declared.Fraction.{Fraction}
use Rattle.pixel.specs.Bounds.{Between}
use Rattle.pixel.specs.Scale.{to_fractions}
use Rattle.pixel_lut.specs.Lut1d.{looked_up}
use Rattle.pixel_lut.specs.Lut1dLaws.{looked-up-between}
use Rattle.room.specs.Room.{Room, room_length}
use Rattle.pixel_lut.specs.Table.{entry_at, column_of, table_in, looked_up_all, lut1d_pixel}

-- a table of the carried shape that a room of this length holds
pub record Held (room at n columns : ℕ) : Type 0 where
  pub some : 2 ≤ n
  pub most : n ≤ 65536
  pub red : column_of columns 0 < columns
  pub green : column_of columns 1 < columns
  pub blue : column_of columns 2 < columns
  pub inside : at + n * columns ≤ room

columns-in : (columns k : ℕ) (p q : Bool) → (columns == 1) ≡ p → (columns == 3) ≡ q → T (p || q) → k < 3 → column_of columns k < columns
unfolding column_of
columns-in columns k p true a b t h = simp b (omega (arith, eqb-true columns 3 b))
columns-in columns k true false a b t h = simp b (omega (arith, eqb-true columns 1 a))
columns-in columns k false false a b t h = absurd t

pub held : (room at n columns : ℕ) → table_in room at n columns ≡ true → Held room at n columns
unfolding table_in
held room at n columns h = go (nat_le 2 n) (nat_le n 65536) (columns == 1 || columns == 3) (nat_le (at + n * columns) room) refl refl refl refl (subst T (sym h) tt)
  where
    go : (p q r s : Bool) → nat_le 2 n ≡ p → nat_le n 65536 ≡ q → (columns == 1) || (columns == 3) ≡ r → nat_le (at + n * columns) room ≡ s → T (p && (q && (r && s))) → Held room at n columns
    go true true true true a b c d t =
        let col : (k : ℕ) → k < 3 → column_of columns k < columns = λ k l. columns-in columns k (columns == 1) (columns == 3) refl refl (subst T (sym c) tt) l in
        record { some = leb-true _ _ a; most = leb-true _ _ b; red = col 0 (omega arith); green = col 1 (omega arith); blue = col 2 (omega arith); inside = leb-true _ _ d }
    go true true true false a b c d t = absurd t
    go true true false s a b c d t = absurd t
    go true false r s a b c d t = absurd t
    go false q r s a b c d t = absurd t

-- ---- a LUT1D's pixel: looked up where the room holds the table, and else left as it is
pub lut1d-table : (m : Room) (at n columns : ℕ) (inScale : Float) (x : Pixel) → table_in (room_length m) at n columns ≡ true
    → lut1d_pixel m at n columns inScale x ≡ looked_up_all m at n columns (to_fractions inScale x)
unfolding lut1d_pixel
lut1d-table m at n columns inScale x h = simp h

pub lut1d-no-table : (m : Room) (at n columns : ℕ) (inScale : Float) (x : Pixel) → table_in (room_length m) at n columns ≡ false
    → lut1d_pixel m at n columns inScale x ≡ x
unfolding lut1d_pixel
lut1d-no-table m at n columns inScale x h = simp h

-- each component between bounds of the column that serves it
pub record InColumns (lo hi : ℕ → Float) (x : Pixel) : Type 0 where
  pub red : Between (lo 0) (hi 0) x.r
  pub green : Between (lo 1) (hi 1) x.g
  pub blue : Between (lo 2) (hi 2) x.b

pub lut1d-between : (m : Room) (at n columns : ℕ) (inScale : Float) (x : Pixel) (lo hi : ℕ → Float) → table_in (room_length m) at n columns ≡ true
    → ((k i : ℕ) → k < 3 → i < n → Between (lo k) (hi k) (entry_at m at columns (column_of columns k) i))
    → InColumns lo hi (lut1d_pixel m at n columns inScale x)
unfolding looked_up_all
lut1d-between m at n columns inScale x lo hi h b =
    let some : 2 ≤ n = (held (room_length m) at n columns h).some in
    let f = to_fractions inScale x in
    let column : (k : ℕ) (y : Fraction) → k < 3 → Between (lo k) (hi k) (looked_up (entry_at m at columns (column_of columns k)) n y).0 =
    λ k y l. looked-up-between (entry_at m at columns (column_of columns k)) n (lo k) (hi k) y (omega arith) (λ i j. b k i l j) in
    rw (lut1d-table m at n columns inScale x h)
    (record { red = column 0 f.r (omega arith); green = column 1 f.g (omega arith); blue = column 2 f.b (omega arith) })
