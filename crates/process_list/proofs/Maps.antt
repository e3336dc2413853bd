-- Laws of a function over every element of a list. Assumes nothing.
use mathlib.Core.Path.{◌≡◌, refl, ap}
use mathlib.Core.List.{List, [], ◌∷◌, map}
use Prim.Native.Nat.{ℕ, zero, suc, ◌<◌}
use native.Mathlib.Omega.{arith}
use lib.ListN.{length, take, drop, set, get_or}

module _ {A : Type 0} {B : Type 0} (f : A → B) where
  pub map-take : (k : ℕ) (xs : List A) → map f (take k xs) ≡ take k (map f xs)
  map-take zero xs = refl
  map-take (suc k) [] = refl
  map-take (suc k) (x ∷ xs) = ap (λ (l : List B). f x ∷ l) (map-take k xs)

  pub map-drop : (k : ℕ) (xs : List A) → map f (drop k xs) ≡ drop k (map f xs)
  map-drop zero xs = refl
  map-drop (suc k) [] = refl
  map-drop (suc k) (x ∷ xs) = map-drop k xs

  pub map-set : (xs : List A) (k : ℕ) (a : A) → map f (set xs k a) ≡ set (map f xs) k (f a)
  map-set [] k a = refl
  map-set (x ∷ xs) zero a = refl
  map-set (x ∷ xs) (suc k) a = ap (λ (l : List B). f x ∷ l) (map-set xs k a)

-- what is answered behind the end does not matter within
pub getD-within : {A : Type 0} (xs : List A) (k : ℕ) (d e : A) → k < length xs → get_or xs k d ≡ get_or xs k e
getD-within [] k d e h = absurd (omega arith)
getD-within (x ∷ xs) zero d e h = refl
getD-within (x ∷ xs) (suc k) d e h = getD-within xs k d e (omega arith)
