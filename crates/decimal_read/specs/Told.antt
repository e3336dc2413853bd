-- What the number reader tells apart (document 02, W-204: 'The number reader shall say which'): three answers, each given exactly where its words hold.
use Rattle.std.specs.Prelude.{◌≡◌, true, List, ◌⊎◌, ◌↔◌, ℕ, ◌^◌, ◌≤◌, ◌<◌, length}
use Rattle.decimal.specs.Decimal.{size, in_range}
use Rattle.decimal.specs.declared.Decimal.{Decimal}
use Rattle.decimal.specs.Decimal.{Token}
use Rattle.std.specs.Prelude.{Ok, Err}
use Rattle.decimal.specs.declared.NumberFault.TheVariants.{Malformed, OutOfBounds}
use Rattle.decimal_read.specs.Number.{normal}
use Rattle.decimal_read.specs.RightForm.{RightForm, form_said}

-- a token of the right form, 'of at most 64 bytes', which says the number d: its normal form, and that keeps the limits
pub record Accepted (t : List ℕ) (d : Decimal) : Type 0 where
  pub right : RightForm t
  pub short : length t ≤ 64
  pub is : d ≡ normal (form_said t right)
  pub within : in_range d ≡ true

-- 'a token of the right form that is over 64 bytes or outside coefficient or power': the limits are of the normal form, so that zeros have moved before they are judged
pub record Beyond (t : List ℕ) : Type 0 where
  pub right : RightForm t
  pub limit : (64 < length t) ⊎ (10 ^ 15 ≤ size (normal (form_said t right)).coefficient) ⊎ (22 < size (normal (form_said t right)).power)

-- the answer r to a token: its number exactly if it is accepted; no number (9) exactly if its form is wrong, however long it is; out of bounds (25) exactly if its form is right and it is beyond a limit
pub record TellsApart (t : List ℕ) (r : Token) : Type 0 where
  pub number : (d : Decimal) → (r ≡ Ok d) ↔ Accepted t d
  pub malformed : (r ≡ (Err Malformed)) ↔ (RightForm t → ⊥)
  pub out_of_bounds : (r ≡ (Err OutOfBounds)) ↔ Beyond t
