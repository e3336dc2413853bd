-- The number token of document 01 (Numbers): 'A token of at most 64 bytes: maybe a sign, digits with or without a point (a digit on one
-- side at least), then maybe e or E, maybe a sign, and one or two digits. It is held as a whole coefficient and a power of ten, trailing
-- zeros moved into the power; zero is 0 and 0, and minus zero is zero. Coefficient below 10^15 in size, power from -22 to 22.'
-- In order below: the form of a token, what a form says, the normal form of that number, and which tokens are accepted; of those that are not,
-- which are no numbers and which are out of bounds (document 02, W-204).
use Rattle.std.specs.Prelude.{ℕ, zero, suc, ◌+◌, ◌-◌, ◌*◌, ◌^◌, ◌/◌, ◌%◌, Bool, true, false, cond, ◌&&◌, ◌||◌, List, [], ◌∷◌, ◌++◌, leb, eqb, ℤ, pos, neg_ℤ, ◌+ℤ◌, ◌-ℤ◌, length}
use Prim.Native.Char.{code}
use Rattle.std.proofs.Math.Option.{Option, none, some}
use Rattle.decimal.specs.Decimal.{in_range}
use Rattle.decimal.specs.Decimal as D
use Rattle.decimal.specs.declared.Decimal.{Decimal}
use Rattle.decimal.specs.Decimal.{Token}
use Rattle.std.specs.Prelude.{Ok, Err}
use Rattle.decimal.specs.declared.NumberFault.TheVariants.{Malformed, OutOfBounds}

-- ── The bytes ──

-- 0 to 9
unfoldable pub is_digit : ℕ → Bool
is_digit b = leb (code "0") b && leb b (code "9")

-- e or E
unfoldable pub is_mark : ℕ → Bool
is_mark b = eqb b (code "e") || eqb b (code "E")

-- ── The parts of a token ──

-- 'maybe a sign': whether the bytes begin with a minus, and what stands behind a minus or a plus
unfoldable pub is_minus : List ℕ → Bool
is_minus [] = false
is_minus (b ∷ l) = eqb b (code "-")

unfoldable pub behind_sign : List ℕ → List ℕ
behind_sign [] = []
behind_sign (b ∷ l) = cond (eqb b (code "-") || eqb b (code "+")) l (b ∷ l)

-- the digits that the bytes begin with, each a number from 0 to 9, and what stands behind them
unfoldable pub digits_of : List ℕ → List ℕ
digits_of [] = []
digits_of (b ∷ l) = cond (is_digit b) ((b - code "0") ∷ digits_of l) []

unfoldable pub behind_digits : List ℕ → List ℕ
behind_digits [] = []
behind_digits (b ∷ l) = cond (is_digit b) (behind_digits l) (b ∷ l)

-- 'with or without a point': the digits behind a point, if the bytes begin with one, and what stands behind them
unfoldable pub fraction_of : List ℕ → List ℕ
fraction_of [] = []
fraction_of (b ∷ l) = cond (eqb b (code ".")) (digits_of l) []

unfoldable pub behind_fraction : List ℕ → List ℕ
behind_fraction [] = []
behind_fraction (b ∷ l) = cond (eqb b (code ".")) (behind_digits l) (b ∷ l)

unfoldable pub is_empty : List ℕ → Bool
is_empty [] = true
is_empty (b ∷ l) = false

-- 'then maybe e or E, maybe a sign, and one or two digits', and then the end
unfoldable pub is_exponent : List ℕ → Bool
is_exponent [] = true
is_exponent (b ∷ l) =
    let rest = behind_sign l in
    is_mark b && (is_empty (behind_digits rest) && (leb 1 (length (digits_of rest)) && leb (length (digits_of rest)) 2))

-- the exponent's sign and digits: no digits where there is no exponent
unfoldable pub exponent_minus : List ℕ → Bool
exponent_minus [] = false
exponent_minus (b ∷ l) = is_minus l

unfoldable pub exponent_digits : List ℕ → List ℕ
exponent_digits [] = []
exponent_digits (b ∷ l) = digits_of (behind_sign l)

-- ── The form ──

-- what a token consists of: its sign, the digits before the point and behind it, the exponent's sign and digits
pub record Form : Type 0 where
  pub negative : Bool
  pub whole : List ℕ
  pub fraction : List ℕ
  pub down : Bool
  pub exponent : List ℕ

-- the form of a token, if it has one: a sign, digits, a point and digits, with 'a digit on one side at least', and an exponent to the end
unfoldable pub form_of : List ℕ → Option Form
form_of token =
    let body = behind_sign token in
    let behind = behind_digits body in
    let rest = behind_fraction behind in
    cond (leb 1 (length (digits_of body) + length (fraction_of behind)) && is_exponent rest)
    (some (record { negative = is_minus token; whole = digits_of body; fraction = fraction_of behind; down = exponent_minus rest; exponent = exponent_digits rest }))
    none

-- ── What a form says ──

-- the whole number whose digits are those of n and then those of the list
unfoldable pub append : ℕ → List ℕ → ℕ
append n [] = n
append n (d ∷ l) = append (n * 10 + d) l

-- a whole number from its sign and size; minus zero is zero
unfoldable pub with_sign : Bool → ℕ → ℤ
with_sign true n = neg_ℤ (pos n)
with_sign false n = pos n

-- a form says, with its sign, all its digits as a whole number, times 10 to its scale: the exponent less the number of digits behind the point
unfoldable pub digits_number : Form → ℕ
digits_number f = append 0 (f.whole ++ f.fraction)

unfoldable pub scale : Form → ℤ
scale f = with_sign f.down (append 0 f.exponent) -ℤ pos (length f.fraction)

-- ── The normal form: 'trailing zeros moved into the power; zero is 0 and 0, and minus zero is zero' ──

-- how many zeros the number n ends in, looking at no more than its last k digits
unfoldable pub zeros : ℕ → ℕ → ℕ
zeros zero n = 0
zeros (suc k) n = cond (eqb (n % 10) 0) (suc (zeros k (n / 10))) 0

-- the zeros that a form's digits end in; its number has no more digits than the form
unfoldable pub trailing : Form → ℕ
trailing f = zeros (length (f.whole ++ f.fraction)) (digits_number f)

unfoldable pub normal : Form → Decimal
normal f =
    cond (eqb (digits_number f) 0) D.zero
    (record { coefficient = with_sign f.negative (digits_number f / 10 ^ trailing f); power = scale f +ℤ pos (trailing f) })

-- ── The token ──

-- what a token of n bytes says. One without a form 'is no number' (9). One that has the form f says its normal form if that keeps the limits and the token is 'of at most
-- 64 bytes'; else it is 'a token of the right form that is over 64 bytes or outside coefficient or power' (25; 02, W-204)
unfoldable pub token_by : ℕ → Option Form → Token
token_by n none = Err Malformed
token_by n (some f) = cond (leb n 64 && in_range (normal f)) (Ok (normal f)) (Err OutOfBounds)

-- what a token says: a number, that it is no number of our form, or that it is one out of bounds
unfoldable pub token_of : List ℕ → Token
token_of token = token_by (length token) (form_of token)
