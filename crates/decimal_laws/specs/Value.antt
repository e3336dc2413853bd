-- The values of number tokens (document 01, Numbers) as rational numbers, stated with natural numbers: a sign, a whole number and a
-- power of ten. The theorems over these definitions are proofs/Accepted, Valued and Unique.
use Rattle.std.specs.Prelude.{◌≡◌, Bool, true, false, ℕ, suc, ◌*◌, ◌^◌, ◌%◌, ℤ, pos, negsuc}
use Rattle.decimal.specs.Decimal.{size, in_range}
use Rattle.decimal.specs.declared.Decimal.{Decimal}
use Rattle.decimal_read.specs.Number.{Form, digits_number, scale}

-- the rational number n times 10 to the power, below zero where `negative` says so
pub record Scaled : Type 0 where
  pub negative : Bool
  pub number : ℕ
  pub power : ℤ

-- 10 to the p is 10 ^ up p over 10 ^ down p
unfoldable pub up : ℤ → ℕ
up (pos n) = n
up (negsuc n) = 0

unfoldable pub down : ℤ → ℕ
down (pos n) = 0
down (negsuc n) = suc n

-- a and b are the same rational number: their fractions are equal, multiplied crosswise, and so are their signs unless they are zero
pub record Same (a b : Scaled) : Type 0 where
  pub crosswise : a.number * 10 ^ up a.power * 10 ^ down b.power ≡ b.number * 10 ^ up b.power * 10 ^ down a.power
  pub signs : (a.number ≡ 0 → ⊥) → a.negative ≡ b.negative

unfoldable pub is_negative : ℤ → Bool
is_negative (pos n) = false
is_negative (negsuc n) = true

-- what a form says: all its digits as a whole number, times 10 to the exponent less the number of digits behind the point
abbrev pub said : Form → Scaled
said f = record { negative = f.negative; number = digits_number f; power = scale f }

-- what a coefficient and a power stand for
abbrev pub held : Decimal → Scaled
held d = record { negative = is_negative d.coefficient; number = size d.coefficient; power = d.power }

-- a number in normal form and within the limits: zero as 0 and 0, any other with no zero at the coefficient's end
pub record Normal (d : Decimal) : Type 0 where
  pub within : in_range d ≡ true
  pub zero : size d.coefficient ≡ 0 → d ≡ record { coefficient = pos 0; power = pos 0 }
  pub ends : (size d.coefficient ≡ 0 → ⊥) → size d.coefficient % 10 ≡ 0 → ⊥
