-- What it is to be accepted, and that the digits of a form are digits. Assumes nothing.
use mathlib.Core.Path.{◌≡◌, subst}
use mathlib.Core.Bool.{Bool, true, false, cond, ◌&&◌}
use mathlib.Core.List.{List, ◌++◌}
use mathlib.Core.Option.{none, some, none-ne-some, some-injective}
use Prim.Native.Nat.{ℕ, ◌+◌}
use lib.Dec.{leb}
use lib.ListN.{length}
use Rattle.decimal.specs.declared.Decimal.{Decimal}
use Rattle.std.specs.Prelude.{Ok}
use Rattle.decimal_read.specs.Number.{Form, behind_sign, digits_of, behind_digits, fraction_of, behind_fraction, is_exponent, is_minus, exponent_minus, exponent_digits, form_of, token_of}
use Rattle.decimal_read.specs.Told.{Accepted}
use Rattle.decimal_read.proofs.Stands.{Small, digits-small, fraction-small, both_small}
use Rattle.decimal_read.proofs.Told.{tells-apart}

-- an accepted token has at most 64 bytes and a form, and is that form's normal form, within the limits
pub accepted : (t : List ℕ) (d : Decimal) → token_of t ≡ Ok d → Accepted t d
accepted t d e = ((tells-apart t).number d).0 e

-- ── The digits of a form are digits ──

chosen : (b : Bool) (a f : Form) → cond b (some a) none ≡ some f → a ≡ f
chosen true a f e = some-injective a f e
chosen false a f e = absurd (none-ne-some f e)

pub form_small : (t : List ℕ) (f : Form) → form_of t ≡ some f → Small (f.whole ++ f.fraction)
unfolding form_of
form_small t f e =
    let body : List ℕ = behind_sign t in
    let behind : List ℕ = behind_digits body in
    let rest : List ℕ = behind_fraction behind in
    subst (λ (g : Form). Small (g.whole ++ g.fraction))
    (chosen (leb 1 (length (digits_of body) + length (fraction_of behind)) && is_exponent rest)
    (record { negative = is_minus t; whole = digits_of body; fraction = fraction_of behind; down = exponent_minus rest; exponent = exponent_digits rest }) f e)
    (both_small (digits-small body) (fraction-small behind))
