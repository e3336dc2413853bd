-- Document 01, LUT1D: 'fraction held in 0..1, p = fraction·(n − 1), i the largest index with i ≤ p, f = p − i. Entry i if i = n − 1 or f = 0; else e + f·(e' − e), held between the
-- smaller and larger of the two entries.'
use Rattle.std.specs.Prelude.{ℕ, zero, suc, ◌+◌, ◌-◌, cond, ◌&&◌, ◌==◌, nat_le, Float}
use Rattle.std.specs.Float.Ieee.{lt, le, eq}
use Rattle.pixel.specs.declared.CodeValue.{CodeValue}
use Rattle.pixel.specs.declared.Fraction.{Fraction}
use Rattle.pixel.specs.F64.{◌⊕◌, ◌⊖◌, ◌⊗◌, one, whole}
use Rattle.pixel.specs.F64 as F64
use Rattle.pixel.specs.Hold.{hold}
use Rattle.pixel_lut.specs.declared.AxisPlace.{AxisPlace}

-- 'fraction held in 0..1, p = fraction·(n − 1)'
unfoldable pub position : ℕ → Fraction → Float
position n x = hold x.0 F64.zero one ⊗ whole (n - 1)

-- the largest index up to k that is at most p
unfoldable pub floor_to : ℕ → Float → ℕ
floor_to zero p = zero
floor_to (suc k) p = cond (le (whole (suc k)) p) (suc k) (floor_to k p)

-- 'i the largest index with i ≤ p'
unfoldable pub index : ℕ → Fraction → ℕ
index n x = floor_to (n - 1) (position n x)

-- 'f = p − i'
unfoldable pub remainder : ℕ → Fraction → Float
remainder n x = position n x ⊖ whole (index n x)

-- both at once, on an axis that has from 2 to 65,536 entries. So that every call has an answer, on any other both are 0
unfoldable pub on_axis : ℕ → Fraction → AxisPlace
on_axis n x =
    cond (nat_le 2 n && nat_le n 65536)
    (record { index = index n x; part = remainder n x })
    (record { index = 0; part = F64.zero })

-- the smaller and the larger of two entries
abbrev pub smaller : Float → Float → Float
smaller e e' = cond (lt e' e) e' e

abbrev pub larger : Float → Float → Float
larger e e' = cond (lt e' e) e e'

-- 'e + f·(e' − e), held between the smaller and larger of the two entries'
unfoldable pub interpolated : Float → Float → Float → Float
interpolated e e' f = hold (e ⊕ f ⊗ (e' ⊖ e)) (smaller e e') (larger e e')

-- 'Entry i if .. f = 0'
unfoldable pub stepped : Float → Float → Float → Float
stepped e e' f = cond (eq f F64.zero) e (interpolated e e' f)

-- the step on one component, over a column of n entries
unfoldable pub looked_up : (ℕ → Float) → ℕ → Fraction → CodeValue
looked_up entry n x =
    let i = index n x in
    record { 0 = cond (i == n - 1) (entry i) (stepped (entry i) (entry (i + 1)) (remainder n x)) }
