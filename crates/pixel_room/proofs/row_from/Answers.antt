use mathlib.Core.Path.{◌≡◌}
use mathlib.Core.Bool.{Bool, cond}
use mathlib.Core.List.{[], ◌∷◌}
use Prim.Native.Nat.{ℕ, ◌+◌}
use native.Mathlib.Omega.{arith}
use Rattle.room.specs.Room.{Room}
use Rattle.pixel.specs.F64 as F64
use Rattle.pixel_room.specs.Room.{number_at, row_at}
use Rattle.pixel_room.proofs.row_from.Goals as goal

-- a row's numbers, counted from the start of its Matrix
counted : (m : Room) (at k : ℕ) (wide : Bool)
    → row_at m (at + k) wide
    ≡ number_at m (at + k)
    ∷ number_at m (at + (k + 1))
    ∷ number_at m (at + (k + 2))
    ∷ cond wide (number_at m (at + (k + 3))) F64.zero
    ∷ []
unfolding row_at
counted m at k wide =
    let one : at + k + 1 ≡ at + (k + 1) = omega arith in
    let two : at + k + 2 ≡ at + (k + 2) = omega arith in
    let three : at + k + 3 ≡ at + (k + 3) = omega arith in
    rw (one, two, three)

pub returns-then-wide : goal.returns-then-wide
returns-then-wide c = simp (counted, c.if-wide.true) (cc)

pub returns-else-wide : goal.returns-else-wide
returns-else-wide c = simp (counted, c.if-wide.false) (cc)
