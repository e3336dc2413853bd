use Rattle.std.proofs.Common.{◌≡◌, ℕ, ◌-◌, ◌^◌, ◌<◌, ◌≤◌, refl, arith, le→leb, le-leb}
use lib.Ieee.{in_float}
use borrow.Author.Tests.{lt-leb}
use Rattle.pixel.specs.declared.Fraction.{Fraction}
use Rattle.pixel.specs.F64 as F64
use Rattle.pixel_lut.specs.declared.AxisPlace.{AxisPlace}
use Rattle.pixel_lut.specs.Lut1d.{on_axis, index, remainder}
use Rattle.pixel_lut.specs.Lut1dLaws.{on-axis}
use Rattle.pixel_lut.specs.Floor.{position_in, floor-le}
use Rattle.pixel_lut.proofs.on_axis.Goals as goal
use Rattle.pixel_lut.proofs.on_axis.Goals.{then-n-lt2-via-then-n-lt2, then-n-lt2-via-else-n-lt2+then-n-gt65536}

-- too few entries, or too many
abbrev none : AxisPlace
none = record { index = 0; part = F64.zero }

few : (n : ℕ) (x : Fraction) → n < 2 → none ≡ on_axis n x
unfolding on_axis
few n x h = simp (lt-leb 2 n h)

many : (n : ℕ) (x : Fraction) → 2 ≤ n → 65536 < n → none ≡ on_axis n x
unfolding on_axis
many n x h k = simp (le-leb 2 n h, lt-leb n 65536 k)

pub returns-then-n-lt2 : goal.returns-then-n-lt2
returns-then-n-lt2 c = let a = c.args in elim c.then-n-lt2.branch [
  | then-n-lt2-via-then-n-lt2 w ↦ few a.n a.x w.if-n-lt2.true
  | then-n-lt2-via-else-n-lt2+then-n-gt65536 w ↦ many a.n a.x w.if-n-lt2.false w.if-n-gt65536.true
]

pub floor_to-index-requires : goal.floor_to-index-requires
floor_to-index-requires c =
    let a = c.args in
    let p = position_in a.n a.x (omega arith) in
    record { top_bound = omega arith; t = rw c.position-p.ensures p.0; t_2 = rw c.position-p.ensures p.1 }

pub int_to_float-result : goal.int_to_float-result
unfolding in_float
int_to_float-result c =
    let top = c.args.n - 1 in
    le→leb c.floor_to-index.result (2 ^ 53) (omega (arith, rw (← c.floor_to-index.ensures) at (floor-le top c.position-p.result)))

pub returns : goal.returns
unfolding index remainder
returns c =
    let a = c.args in
    rw (on-axis a.n a.x (omega arith) (omega arith), ← c.position-p.ensures, ← c.floor_to-index.ensures) refl
