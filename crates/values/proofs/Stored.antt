-- Numbers in the room, one run after the other, and what a fault leaves of them. Assumes nothing.
use mathlib.Core.Path.{◌≡◌, sym, ap, ◌∙◌, subst}
use mathlib.Core.List.{List, [], ◌∷◌, ◌++◌}
use Prim.Native.Nat.{ℕ, ◌+◌, ◌≤◌, min}
use native.Mathlib.Omega.{arith}
use lib.ListN.{length}
use Rattle.decimal.specs.declared.Decimal.{Decimal}
use Rattle.grammar.specs.Parse.{Parser}
use Rattle.grammar.specs.Laws.{nope}
use Rattle.xml.specs.Code.{Scan}
use Rattle.std.specs.Prelude.{Ok, Err, true}
use Rattle.std.specs.Result.{is_err}
use Rattle.room.specs.Room.{Room, room_length, stored_in, laid_in, cleared_from}
use Rattle.room.proofs.Laws.{stored-out}
use Rattle.room.proofs.Rooms.{same-room, laid-nothing, laid_both, stored_one, RoomFrom, from-laid, from-cleared, cleared-same}
use Rattle.values.specs.Code.{Laid, NumbersStored, NumbersRead}

-- ---- one run after the other

pub laid-none-yet : (base : ℕ) (m : Room) → Laid base [] m m
laid-none-yet base m = sym (laid-nothing base m)

-- one number is stored
pub laid_one : (at : ℕ) (d : Decimal) (m m₁ : Room) → m₁ ≡ stored_in at d m → Laid at (d ∷ []) m m₁
laid_one at d m m₁ e = e ∙ stored_one at d m

-- an index behind the coefficients is not in the room
pub laid-outside : (at : ℕ) (d : Decimal) (m : Room) → length m.coefficients ≤ at → Laid at (d ∷ []) m m
unfolding room_length stored_in
laid-outside at d m h =
    let n : ℕ = min (length m.coefficients) (length m.powers) in
    laid_one at d m m (same-room (stored-out n at m.coefficients d.coefficient (omega arith)) (stored-out n at m.powers d.power (omega arith)))

-- one run behind the other
pub laid_then : (base : ℕ) (xs ys : List Decimal) (m₀ m₁ m₂ : Room) → Laid base xs m₀ m₁ → Laid (base + length xs) ys m₁ m₂ → Laid base (xs ++ ys) m₀ m₂
laid_then base xs ys m₀ m₁ m₂ e f = f ∙ ap (laid_in (base + length xs) ys) e ∙ sym (laid_both base xs ys m₀)

-- nothing has changed but the room from `base` on
pub laid_from : (base : ℕ) (xs : List Decimal) (m₀ m₁ : Room) → Laid base xs m₀ m₁ → RoomFrom base m₀ m₁
laid_from base xs m₀ m₁ e = subst (λ (m : Room). RoomFrom base m₀ m) (sym e) (from-laid base base xs m₀ (omega arith))

-- ---- what a fault leaves

-- cleared, it is as the room before, cleared so
pub cleared-laid : (base : ℕ) (xs : List Decimal) (m₀ m₁ : Room) → Laid base xs m₀ m₁ → cleared_from base m₁ ≡ cleared_from base m₀
cleared-laid base xs m₀ m₁ e = cleared-same base m₀ m₁ (laid_from base xs m₀ m₁ e)

pub cleared-twice : (base : ℕ) (m₀ m₁ : Room) → m₁ ≡ cleared_from base m₀ → cleared_from base m₁ ≡ cleared_from base m₀
cleared-twice base m₀ m₁ e = cleared-same base m₀ m₁ (subst (λ (m : Room). RoomFrom base m₀ m) (sym e) (from-cleared base base m₀ (omega arith)))

module _ (n : ℕ) (p : Parser (List Decimal)) (s : List ℕ) (at base : ℕ) (m₀ m₁ : Room) where
  pub numbers-cleared : (m₂ : Room) (r : Scan) → true ≡ is_err r → NumbersStored n p s at base r m₀ m₁ → m₂ ≡ cleared_from base m₁ → NumbersRead n p s at base r m₀ m₂
  numbers-cleared m₂ (Ok e) q v h = nope cc
  numbers-cleared m₂ (Err x) q v h = record { xs = v.xs; out = v.out; inside = v.inside; counted = tt; room = h ∙ cleared-laid base v.xs m₀ m₁ v.room }
