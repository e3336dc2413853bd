use Rattle.std.specs.Prelude.{◌≡◌, Bool, ℕ}
use Rattle.std.proofs.Common.{refl}
use Rattle.room.specs.Room.{Room, lent}
use Rattle.pixel_run.specs.declared.Prepared.{Prepared}
use Rattle.pixel_run.specs.declared.Prepared.TheVariants.{Matrix, Lut1d, Range, Cdl, Lut3d, OneEnd}
use Rattle.running.specs.Running.{rows_as, no_rows}
use Rattle.running.proofs.rows.Goals as goal

-- the kinds that use no rows
others : (m : Room) (p : Prepared) → ((at : ℕ) (wide : Bool) → p ≡ Matrix at wide → ⊥) → no_rows ≡ rows_as m p
unfolding rows_as
others m (Matrix at wide) h = absurd (h at wide refl)
others m (Lut1d at entries columns) h = refl
others m (Lut3d at points interpolation) h = refl
others m (Range minIn maxIn minOut maxOut clamp) h = refl
others m (Cdl sr sg sb or og ob pr pg pb sat clamp) h = refl
others m (OneEnd end limit) h = refl

pub returns-in-Matrix : goal.returns-in-Matrix
unfolding rows_as
returns-in-Matrix c = simp c.in-Matrix.is c.rows_from.ensures

pub returns : goal.returns
returns c = let a = c.args in others (lent a.coefficients.now a.powers.now) a.step c.in_default.not-Matrix
