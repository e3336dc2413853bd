use mathlib.Core.Path.{◌≡◌, refl}
use mathlib.Core.Bool.{not}
use mathlib.Core.List.{List, [], ◌∷◌}
use Prim.Native.Nat.{ℕ, ◌<◌}
use native.Mathlib.Omega.{arith}
use lib.Dec.{eqb}
use lib.ListN.{length, get_or}
use Rattle.ids.specs.Ids.{is_given}
use Rattle.ids.proofs.is_given.Goals as goal

first : (t : List ℕ) → 0 < length t → not (eqb (get_or t 0 0) 0) ≡ is_given t
unfolding is_given
first [] h = absurd (omega arith)
first (b ∷ t) h = refl

pub returns : goal.returns
returns c =
    let n : length c.args.places ≡ 32 = c.well_formed.0.1.0.1 in
    first _ (omega arith)
