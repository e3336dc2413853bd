-- The laws of the room as a whole: each is a law of one slice, cited once for each slice. Assumes nothing.
use mathlib.Core.Path.{◌≡◌, refl, ap}
use mathlib.Core.List.{List, [], ◌∷◌, ◌++◌, map-append}
use Prim.Native.Nat.{ℕ, ◌+◌, ◌≤◌, min}
use native.Mathlib.Omega.{arith}
use lib.IntN.{ℤ, pos}
use lib.ListN.{length, length-map}
use Rattle.decimal.specs.declared.Decimal.{Decimal}
use Rattle.room.specs.Room.{Room, lent, room_length, beyond, laid, coefficient_parts, power_parts, stored_in, laid_in, cleared_in, cleared_from, filled_with, resized_in}
use Rattle.room.proofs.Contents.{laid_none, laid-append, laid_more, laid-length, SliceFrom, slice-refl, slice-trans, slice-laid, slice-cleared, cleared-from}
use Rattle.room.proofs.Contents.{cleared-whole, laid-cleared, filled-length, filled-behind, filled-over, resized-length}

-- rooms of equal slices
pub same-room : {c c' p p' : List ℤ} → c ≡ c' → p ≡ p' → lent c p ≡ lent c' p'
same-room e f = cc

pub length-at-most : (m : Room) → (room_length m ≤ length m.coefficients) × (room_length m ≤ length m.powers)
unfolding room_length
length-at-most m = (omega arith, omega arith)

-- ---- numbers one by one
pub laid-nothing : (at : ℕ) (m : Room) → laid_in at [] m ≡ m
unfolding laid_in
laid-nothing at m = same-room (laid_none (room_length m) at m.coefficients) (laid_none (room_length m) at m.powers)

pub laid-room : (at : ℕ) (xs : List Decimal) (m : Room) → room_length (laid_in at xs m) ≡ room_length m
unfolding room_length laid_in
laid-room at xs m =
    let e = laid-length (min (length m.coefficients) (length m.powers)) at (coefficient_parts xs) m.coefficients in
    let f = laid-length (min (length m.coefficients) (length m.powers)) at (power_parts xs) m.powers in
    rw (e, f) refl

pub laid_both : (at : ℕ) (xs ys : List Decimal) (m : Room) → laid_in at (xs ++ ys) m ≡ laid_in (at + length xs) ys (laid_in at xs m)
unfolding laid_in
laid_both at xs ys m =
    let n : room_length (laid_in at xs m) ≡ room_length m = laid-room at xs m in
    same-room
    (rw (map-append, laid-append, length-map, n) refl)
    (rw (map-append, laid-append, length-map, n) refl)

pub laid-one-more : (at : ℕ) (xs : List Decimal) (d : Decimal) (m : Room) → stored_in (at + length xs) d (laid_in at xs m) ≡ laid_in at (xs ++ d ∷ []) m
unfolding stored_in laid_in
laid-one-more at xs d m =
    let n : room_length (laid_in at xs m) ≡ room_length m = laid-room at xs m in
    same-room
    (rw (n, map-append, ← length-map xs (λ (x : Decimal). x.coefficient)) (laid_more (room_length m) at (coefficient_parts xs) d.coefficient m.coefficients))
    (rw (n, map-append, ← length-map xs (λ (x : Decimal). x.power)) (laid_more (room_length m) at (power_parts xs) d.power m.powers))

pub stored_one : (at : ℕ) (d : Decimal) (m : Room) → stored_in at d m ≡ laid_in at (d ∷ []) m
unfolding stored_in laid_in laid
stored_one at d m = refl

-- ---- a room that has changed from index `base` on alone
pub record RoomFrom (base : ℕ) (m₀ m₁ : Room) : Type 0 where
  pub coefficients : SliceFrom (room_length m₀) base m₀.coefficients m₁.coefficients
  pub powers : SliceFrom (room_length m₀) base m₀.powers m₁.powers

pub from-room : (base : ℕ) (m₀ m₁ : Room) → RoomFrom base m₀ m₁ → room_length m₁ ≡ room_length m₀
unfolding room_length
from-room base m₀ m₁ f = let e = f.coefficients.size in let g = f.powers.size in rw (e, g) refl

pub from-refl : (base : ℕ) (m : Room) → RoomFrom base m m
from-refl base m = record { coefficients = slice-refl _ base m.coefficients; powers = slice-refl _ base m.powers }

pub from-trans : (base : ℕ) (m₀ m₁ m₂ : Room) → RoomFrom base m₀ m₁ → RoomFrom base m₁ m₂ → RoomFrom base m₀ m₂
from-trans base m₀ m₁ m₂ f g =
    let n : room_length m₁ ≡ room_length m₀ = from-room base m₀ m₁ f in
    record {
      coefficients = slice-trans _ base _ _ _ f.coefficients (rw n at g.coefficients);
      powers = slice-trans _ base _ _ _ f.powers (rw n at g.powers);
    }

pub from-laid : (base at : ℕ) (xs : List Decimal) (m : Room) → base ≤ at → RoomFrom base m (laid_in at xs m)
unfolding laid_in
from-laid base at xs m h = record { coefficients = slice-laid _ base at _ m.coefficients h; powers = slice-laid _ base at _ m.powers h }

pub from-cleared : (base at : ℕ) (m : Room) → base ≤ at → RoomFrom base m (cleared_from at m)
unfolding cleared_in
from-cleared base at m h =
    let l = length-at-most m in
    record { coefficients = cleared-from _ base at (pos 0) m.coefficients l.0 h; powers = cleared-from _ base at (pos 0) m.powers l.1 h }

-- cleared from `base` on, it is as the room before the change, cleared so
pub cleared-same : (base : ℕ) (m₀ m₁ : Room) → RoomFrom base m₀ m₁ → cleared_from base m₁ ≡ cleared_from base m₀
unfolding cleared_in
cleared-same base m₀ m₁ f =
    let n : room_length m₁ ≡ room_length m₀ = from-room base m₀ m₁ f in
    rw n (same-room (slice-cleared _ base (pos 0) _ _ f.coefficients) (slice-cleared _ base (pos 0) _ _ f.powers))

-- ---- a room that holds a run of numbers, and zeros behind it
pub laid_filled : (xs : List Decimal) (m : Room) → length xs ≤ room_length m → cleared_from (length xs) (laid_in 0 xs m) ≡ filled_with xs m
unfolding cleared_in laid_in filled_with
laid_filled xs m h =
    let n : room_length (laid_in 0 xs m) ≡ room_length m = laid-room 0 xs m in
    let l = length-at-most m in
    let a : length (coefficient_parts xs) ≡ length xs = length-map xs (λ (x : Decimal). x.coefficient) in
    let b : length (power_parts xs) ≡ length xs = length-map xs (λ (x : Decimal). x.power) in
    rw n (same-room
    (rw (← a) (laid-cleared (room_length m) (pos 0) (coefficient_parts xs) m.coefficients (omega arith) l.0))
    (rw (← b) (laid-cleared (room_length m) (pos 0) (power_parts xs) m.powers (omega arith) l.1)))

pub cleared-nothing : (m₀ m₁ : Room) → RoomFrom 0 m₀ m₁ → cleared_from 0 m₁ ≡ filled_with [] m₀
unfolding cleared_in filled_with
cleared-nothing m₀ m₁ f =
    let n : room_length m₁ ≡ room_length m₀ = from-room 0 m₀ m₁ f in
    rw n (same-room (cleared-whole _ (pos 0) _ _ f.coefficients.behind) (cleared-whole _ (pos 0) _ _ f.powers.behind))

pub filled-room : (xs : List Decimal) (m : Room) → length xs ≤ room_length m → room_length (filled_with xs m) ≡ room_length m
unfolding room_length filled_with
filled-room xs m h =
    let n : ℕ = min (length m.coefficients) (length m.powers) in
    let a : length (coefficient_parts xs) ≡ length xs = length-map xs (λ (x : Decimal). x.coefficient) in
    let b : length (power_parts xs) ≡ length xs = length-map xs (λ (x : Decimal). x.power) in
    let e = filled-length n (pos 0) (coefficient_parts xs) m.coefficients (omega arith) (omega arith) in
    let f = filled-length n (pos 0) (power_parts xs) m.powers (omega arith) (omega arith) in
    omega arith

-- what a room held before does not matter
pub filled-again : (xs ys : List Decimal) (m : Room) → length ys ≤ room_length m → filled_with xs (filled_with ys m) ≡ filled_with xs m
unfolding filled_with
filled-again xs ys m h =
    let n : room_length (filled_with ys m) ≡ room_length m = filled-room ys m h in
    let a : length (coefficient_parts ys) ≡ length ys = length-map ys (λ (x : Decimal). x.coefficient) in
    let b : length (power_parts ys) ≡ length ys = length-map ys (λ (x : Decimal). x.power) in
    let e = filled-behind (room_length m) (pos 0) (coefficient_parts ys) m.coefficients (omega arith) in
    let f = filled-behind (room_length m) (pos 0) (power_parts ys) m.powers (omega arith) in
    rw n (same-room
    (filled-over (room_length m) (pos 0) (coefficient_parts xs) _ m.coefficients e)
    (filled-over (room_length m) (pos 0) (power_parts xs) _ m.powers f))

-- nor does anything of it but its length and what stands behind it
pub filled-equal : (xs : List Decimal) (m₀ m₁ : Room) → room_length m₁ ≡ room_length m₀ → beyond m₁ ≡ beyond m₀ → filled_with xs m₁ ≡ filled_with xs m₀
unfolding filled_with beyond
filled-equal xs m₀ m₁ n e =
    let a = rw n at (ap (λ (m : Room). m.coefficients) e) in
    let b = rw n at (ap (λ (m : Room). m.powers) e) in
    rw n (same-room (filled-over (room_length m₀) (pos 0) (coefficient_parts xs) _ _ a) (filled-over (room_length m₀) (pos 0) (power_parts xs) _ _ b))

pub filled-beyond : (xs : List Decimal) (m : Room) → length xs ≤ room_length m → beyond (filled_with xs m) ≡ beyond m
unfolding beyond filled_with
filled-beyond xs m h =
    let n : room_length (filled_with xs m) ≡ room_length m = filled-room xs m h in
    let a : length (coefficient_parts xs) ≡ length xs = length-map xs (λ (x : Decimal). x.coefficient) in
    let b : length (power_parts xs) ≡ length xs = length-map xs (λ (x : Decimal). x.power) in
    rw n (same-room
    (filled-behind (room_length m) (pos 0) (coefficient_parts xs) m.coefficients (omega arith))
    (filled-behind (room_length m) (pos 0) (power_parts xs) m.powers (omega arith)))

-- ---- resizing keeps the room's length
pub resized-room : (at old new used : ℕ) (m : Room) → room_length (resized_in at old new used m) ≡ room_length m
unfolding room_length resized_in
resized-room at old new used m =
    let n : ℕ = min (length m.coefficients) (length m.powers) in
    let a = resized-length n (pos 0) at old new used m.coefficients (omega arith) in
    let b = resized-length n (pos 0) at old new used m.powers (omega arith) in
    omega arith
