-- The numbers of a small room, one by one. Assumes nothing.
use mathlib.Core.Path.{◌≡◌, refl, sym, ap, ◌∙◌}
use mathlib.Core.Bool.{Bool, true, false, cond}
use mathlib.Core.List.{List, [], ◌∷◌, ◌++◌, map}
use Prim.Native.Nat.{ℕ, zero, suc, ◌+◌, ◌≤◌, ◌<◌, min}
use native.Mathlib.Omega.{arith}
use native.Mathlib.Numerals.{add-one}
use lib.IntN.{ℤ, pos}
use lib.Dec.{ltb}
use lib.ListN.{length, take, get_or, set, length-take}
use lib.Seq.{take-suc, take-length, set_out}
use borrow.Author.Tests.{lt-ltb, le-ltb, ltb-false}
use Rattle.decimal.specs.declared.Decimal.{Decimal}
use Rattle.decimal.specs.Decimal as Decimals
use Rattle.room.specs.Room.{Room, room_length, stored, laid, coefficient_parts, power_parts, laid_in}
use Rattle.values.specs.Code.{Laid}
use Rattle.node_parts.specs.Code.{small_number_at, numbers_from, small_numbers}
use Rattle.values.proofs.Stored.{laid-none-yet, laid_then}

module _ (m : Room) (k : ℕ) where
  abbrev number_of : Bool → Decimal
  number_of b = cond b (record { coefficient = get_or m.coefficients k (pos 0); power = get_or m.powers k (pos 0) }) Decimals.zero

  pub number_in : k < room_length m → record { coefficient = get_or m.coefficients k (pos 0); power = get_or m.powers k (pos 0) } ≡ small_number_at m k
  unfolding small_number_at
  number_in h = sym (ap number_of (lt-ltb k (room_length m) h))

  pub number-out : room_length m ≤ k → Decimals.zero ≡ small_number_at m k
  unfolding small_number_at
  number-out h = sym (ap number_of (le-ltb k (room_length m) h))

length-of : (cs ps : List ℤ) → length (numbers_from cs ps) ≡ min (length cs) (length ps)
length-of [] ps = omega arith
length-of (c ∷ cs) [] = omega arith
length-of (c ∷ cs) (p ∷ ps) = omega (arith, length-of cs ps)

get-of : (cs ps : List ℤ) (k : ℕ) → k < min (length cs) (length ps)
    → get_or (numbers_from cs ps) k Decimals.zero ≡ record { coefficient = get_or cs k (pos 0); power = get_or ps k (pos 0) }
get-of [] ps k h = absurd (omega arith)
get-of (c ∷ cs) [] k h = absurd (omega arith)
get-of (c ∷ cs) (p ∷ ps) zero h = refl
get-of (c ∷ cs) (p ∷ ps) (suc k) h = get-of cs ps k (omega arith)

module _ (m : Room) where
  pub numbers-length : length (small_numbers m) ≡ room_length m
  unfolding room_length
  numbers-length = length-of m.coefficients m.powers

  pub numbers-get : (k : ℕ) → k < room_length m → get_or (small_numbers m) k Decimals.zero ≡ record { coefficient = get_or m.coefficients k (pos 0); power = get_or m.powers k (pos 0) }
  unfolding room_length
  numbers-get k h = get-of m.coefficients m.powers k h

  pub numbers-at : (k : ℕ) → k < room_length m → get_or (small_numbers m) k Decimals.zero ≡ small_number_at m k
  numbers-at k h = numbers-get k h ∙ number_in m k h

-- a small room that holds these numbers
pub numbers-map : {A : Type 0} (f : A → Decimal) (l : List A) → numbers_from (map (λ (a : A). (f a).coefficient) l) (map (λ (a : A). (f a).power) l) ≡ map f l
numbers-map f [] = refl
numbers-map f (a ∷ l) = ap (λ (m : List Decimal). f a ∷ m) (numbers-map f l)

-- ---- numbers laid in a small room

numbers-set : (c p : List ℤ) (k : ℕ) (d : Decimal) → numbers_from (set c k d.coefficient) (set p k d.power) ≡ set (numbers_from c p) k d
numbers-set [] p k d = refl
numbers-set (x ∷ c) [] zero d = refl
numbers-set (x ∷ c) [] (suc k) d = refl
numbers-set (x ∷ c) (y ∷ p) zero d = refl
numbers-set (x ∷ c) (y ∷ p) (suc k) d = ap (λ (l : List Decimal). record { coefficient = x; power = y } ∷ l) (numbers-set c p k d)

module _ (n : ℕ) where
  numbers-stored : (k : ℕ) (d : Decimal) (c p : List ℤ) → numbers_from (stored n k d.coefficient c) (stored n k d.power p) ≡ stored n k d (numbers_from c p)
  unfolding stored
  numbers-stored k d c p = go (ltb k n)
    where
      go : (b : Bool) → numbers_from (cond b (set c k d.coefficient) c) (cond b (set p k d.power) p) ≡ cond b (set (numbers_from c p) k d) (numbers_from c p)
      go true = numbers-set c p k d
      go false = refl

  numbers-laid : (at : ℕ) (xs : List Decimal) (c p : List ℤ) → numbers_from (laid n at (coefficient_parts xs) c) (laid n at (power_parts xs) p) ≡ laid n at xs (numbers_from c p)
  unfolding laid
  numbers-laid at [] c p = refl
  numbers-laid at (d ∷ xs) c p =
      numbers-laid (at + 1) xs (stored n at d.coefficient c) (stored n at d.power p) ∙ ap (laid n (at + 1) xs) (numbers-stored at d c p)

-- numbers laid in a small room take their places among the room's numbers
pub small-laid : (at : ℕ) (xs : List Decimal) (m : Room) → small_numbers (laid_in at xs m) ≡ laid (room_length m) at xs (small_numbers m)
unfolding laid_in
small-laid at xs m = numbers-laid (room_length m) at xs m.coefficients m.powers

-- one number
pub small_one : (k : ℕ) (d : Decimal) (m : Room) → small_numbers (laid_in k (d ∷ []) m) ≡ set (small_numbers m) k d
unfolding laid stored
small_one k d m = small-laid k (d ∷ []) m ∙ go (ltb k (room_length m)) refl
  where
    go : (b : Bool) → ltb k (room_length m) ≡ b → cond b (set (small_numbers m) k d) (small_numbers m) ≡ set (small_numbers m) k d
    go true q = refl
    go false q = sym (set_out (small_numbers m) k d (omega (arith, ltb-false k (room_length m) q, numbers-length m)))

-- ---- stored one by one

module _ (small : Room) (base : ℕ) (m₀ : Room) where
  abbrev ns : List Decimal
  ns = small_numbers small

  pub record StoreInv (n j : ℕ) (m : Room) : Type 0 where
    pub all : n ≡ room_length small
    pub few : j ≤ n
    pub room : Laid base (take j ns) m₀ m

  pub store-start : (n : ℕ) → n ≡ room_length small → StoreInv n 0 m₀
  store-start n q = record { all = q; few = omega arith; room = laid-none-yet base m₀ }

  pub store-more : (n j : ℕ) (m m₁ : Room) (d : Decimal) → StoreInv n j m → j < n → d ≡ small_number_at small j → Laid (base + j) (d ∷ []) m m₁ → StoreInv n (j + 1) m₁
  store-more n j m m₁ d v h q l =
      let k : j < room_length small = omega (arith, v.all) in
      let i : length (take j ns) ≡ j = length-take j ns ∙ omega (arith, numbers-length small) in
      let e : take (j + 1) ns ≡ take j ns ++ (d ∷ []) =
      ap (λ (i : ℕ). take i ns) (add-one j) ∙ take-suc ns j Decimals.zero (omega (arith, numbers-length small))
      ∙ ap (λ (x : Decimal). take j ns ++ (x ∷ [])) (numbers-at small j k ∙ sym q) in
      record { all = v.all; few = omega arith; room = rw e (laid_then base (take j ns) (d ∷ []) m₀ m m₁ v.room (rw i l)) }

  pub store-end : (n j : ℕ) (m : Room) → StoreInv n j m → n ≤ j → Laid base ns m₀ m
  store-end n j m v h =
      let e : j ≡ length ns = omega (arith, v.few, v.all, numbers-length small) in
      let t : take j ns ≡ ns = ap (λ (i : ℕ). take i ns) e ∙ take-length ns in
      rw t at v.room
