-- A LUT1D's step stays between the entries that it uses and between the bounds of its column, gives the very entry where it need not interpolate, and no index leaves the table. Assumes nothing.
use Rattle.std.specs.Prelude.{◌≡◌, ℕ, ◌+◌, ◌-◌, ◌<◌, ◌≤◌, Bool, true, false, cond, not, T, ◌==◌, ◌≢◌, is_nan, refl, Float}
use Rattle.std.proofs.Common.{ap, arith, eqb-true, eq-eqb, le-leb}
use Rattle.std.proofs.lemmas.Bool.{eqb-false}
use Rattle.std.specs.Float.Ieee.{lt, le, eq}
use Rattle.pixel.specs.declared.Fraction.{Fraction}
use Rattle.pixel.specs.F64.{whole}
use Rattle.pixel.specs.F64 as F64
use Rattle.pixel.specs.Bounds.{Between}
use Rattle.pixel.specs.Order.{not-above, lt-le, le_right, between-wider}
use Rattle.pixel.specs.HoldLaws.{hold-between}
use Rattle.pixel_lut.specs.Floor.{floor-le, floor-at-most, floor-largest, position_in, none-remains, whole_plain}
use Rattle.pixel_lut.specs.Lut1d.{position, index, remainder, on_axis, smaller, larger, interpolated, stepped, looked_up}

-- ---- no index leaves the table
pub index_below : (n : ℕ) (x : Fraction) → 0 < n → index n x < n
unfolding index
index_below n x h = omega (arith, floor-le (n - 1) (position n x))

-- 'the largest index with i ≤ p'
pub index-at-most : (n : ℕ) (x : Fraction) → n ≤ 65536 → T (le (whole (index n x)) (position n x))
unfolding index
index-at-most n x h = floor-at-most (n - 1) (position n x) (position_in n x h).0

pub index-largest : (n j : ℕ) (x : Fraction) → j < n → T (le (whole j) (position n x)) → j ≤ index n x
unfolding index
index-largest n j x h t = floor-largest (n - 1) j (position n x) (omega arith) t

pub next-below : (n : ℕ) (x : Fraction) → 0 < n → (index n x ≢ n - 1) → index n x + 1 < n
next-below n x h k = omega (arith, index_below n x h, k)

-- ---- the place on an axis of a table that is carried
pub on-axis : (n : ℕ) (x : Fraction) → 2 ≤ n → n ≤ 65536 → on_axis n x ≡ record { index = index n x; part = remainder n x }
unfolding on_axis
on-axis n x h k = simp (le-leb 2 n h, le-leb n 65536 k)

-- at the last entry nothing remains
pub last-exact : (n : ℕ) (x : Fraction) → 2 ≤ n → n ≤ 65536 → index n x ≡ n - 1 → eq (remainder n x) F64.zero ≡ true
unfolding remainder
last-exact n x h k e =
    let p = position_in n x k in
    let w = whole_plain (n - 1) (omega arith) in
    rw e (none-remains (position n x) (whole (n - 1)) p.0 w p.1 (rw e at (index-at-most n x k)))

-- so the step is between the entry at the index and the next one, wherever the index is
pub looked-up-stepped : (entry : ℕ → Float) (n : ℕ) (x : Fraction) → 2 ≤ n → n ≤ 65536
    → (looked_up entry n x).0 ≡ stepped (entry (index n x)) (entry (index n x + 1)) (remainder n x)
unfolding looked_up stepped
looked-up-stepped entry n x h k = go (index n x == n - 1) refl
  where
    go : (q : Bool) → (index n x == n - 1) ≡ q
        → cond q (entry (index n x)) (stepped (entry (index n x)) (entry (index n x + 1)) (remainder n x)) ≡ stepped (entry (index n x)) (entry (index n x + 1)) (remainder n x)
    go true e = simp (last-exact n x h k (eqb-true _ _ e))
    go false e = refl

-- ---- between the two entries, whatever f is
pub interpolated-between : (e e' f : Float) → T (not (is_nan e)) → T (not (is_nan e')) → Between (smaller e e') (larger e e') (interpolated e e' f)
unfolding interpolated
interpolated-between e e' f p q = hold-between _ (smaller e e') (larger e e') (go (lt e' e) refl)
  where
    go : (x : Bool) → lt e' e ≡ x → T (le (cond x e' e) (cond x e e'))
    go true h = lt-le e' e h
    go false h = not-above e e' p q h

-- ---- the very entry at f = 0 and at the last index
pub stepped-zero : (e e' f : Float) → eq f F64.zero ≡ true → stepped e e' f ≡ e
unfolding stepped
stepped-zero e e' f h = simp h

pub looked-up-last : (entry : ℕ → Float) (n : ℕ) (x : Fraction) → index n x ≡ n - 1 → (looked_up entry n x).0 ≡ entry (n - 1)
unfolding looked_up
looked-up-last entry n x h = simp (eq-eqb _ _ h) (ap entry h)

pub looked-up-exact : (entry : ℕ → Float) (n : ℕ) (x : Fraction) → eq (remainder n x) F64.zero ≡ true → (looked_up entry n x).0 ≡ entry (index n x)
unfolding looked_up stepped
looked-up-exact entry n x h = rw h (go (index n x == n - 1))
  where
    go : (q : Bool) → cond q (entry (index n x)) (entry (index n x)) ≡ entry (index n x)
    go true = refl
    go false = refl

-- ---- between the bounds of the column
within_both : (lo hi e e' y : Float) → Between lo hi e → Between lo hi e' → Between (smaller e e') (larger e e') y → Between lo hi y
within_both lo hi e e' y a b = go (lt e' e)
  where
    go : (q : Bool) → Between (cond q e' e) (cond q e e') y → Between lo hi y
    go true k = between-wider e' e lo hi y b.low a.high k
    go false k = between-wider e e' lo hi y a.low b.high k

stepped-between : (lo hi e e' f : Float) → Between lo hi e → Between lo hi e' → Between lo hi (stepped e e' f)
unfolding stepped
stepped-between lo hi e e' f a b = go (eq f F64.zero)
  where
    go : (q : Bool) → Between lo hi (cond q e (interpolated e e' f))
    go true = a
    go false = within_both lo hi e e' _ a b (interpolated-between e e' f (le_right lo e a.low) (le_right lo e' b.low))

pub looked-up-between : (entry : ℕ → Float) (n : ℕ) (lo hi : Float) (x : Fraction) → 0 < n → ((i : ℕ) → i < n → Between lo hi (entry i)) → Between lo hi (looked_up entry n x).0
unfolding looked_up
looked-up-between entry n lo hi x h b = go (index n x == n - 1) refl
  where
    go : (q : Bool) → (index n x == n - 1) ≡ q → Between lo hi (cond q (entry (index n x)) (stepped (entry (index n x)) (entry (index n x + 1)) (remainder n x)))
    go true e = b (index n x) (index_below n x h)
    go false e = stepped-between lo hi _ _ _ (b (index n x) (index_below n x h)) (b (index n x + 1) (next-below n x h (eqb-false _ _ e)))
