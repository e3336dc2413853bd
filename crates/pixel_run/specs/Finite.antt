-- Refusal 15, 'pixel value NaN or infinite': 'the place .. of 15, the index', the lowest.
use Rattle.std.specs.Prelude.{cond, List, [], ◌∷◌, ℕ, suc, Float}
use Rattle.std.specs.Float.Ieee.Scale.{finite}

-- the index of the first component that is a NaN or an infinity; the length if there is none
unfoldable pub first_not_finite : List Float → ℕ
first_not_finite [] = 0
first_not_finite (x ∷ xs) = cond (finite x) (suc (first_not_finite xs)) 0
