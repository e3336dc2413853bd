-- The form of a number token, piece by piece in the words of document 01 (Numbers): 'maybe a sign, digits with or without a point (a digit on one side at least), then maybe e or E, maybe a sign, and
-- one or two digits'. It says what the form is, and not how it is found; and what each piece says.
use Rattle.std.specs.Prelude.{◌≡◌, Bool, true, false, List, [], ◌∷◌, ◌++◌, map, ◌⊎◌, ℕ, ◌+◌, ◌-◌, ◌≤◌, length}
use Prim.Native.Char.{code}
use Rattle.decimal_read.specs.Number.{Form}

-- ── The pieces ──

-- digits alone, 0 to 9; there may be none
abbrev pub Digits : List ℕ → Type 0
Digits [] = Unit {0}
Digits (b ∷ l) = ((code "0" ≤ b) × (b ≤ code "9")) × Digits l

-- 'maybe a sign'
pub data Sign (l : List ℕ) : Type 0 where
  unsigned : l ≡ [] → Sign l
  minus : l ≡ code "-" ∷ [] → Sign l
  plus : l ≡ code "+" ∷ [] → Sign l

-- 'digits with or without a point (a digit on one side at least)'
pub data Mantissa (l : List ℕ) : Type 0 where
  whole : Digits l → 1 ≤ length l → Mantissa l
  pointed : (before behind : List ℕ) → Digits before → Digits behind → 1 ≤ length before + length behind → l ≡ before ++ code "." ∷ behind → Mantissa l

-- 'then maybe e or E, maybe a sign, and one or two digits'
pub data Exponential (l : List ℕ) : Type 0 where
  unscaled : l ≡ [] → Exponential l
  scaled : (mark : ℕ) (sign digits : List ℕ) → (mark ≡ code "e") ⊎ (mark ≡ code "E") → Sign sign → Digits digits → 1 ≤ length digits → length digits ≤ 2 → l ≡ mark ∷ sign ++ digits → Exponential l

-- a token of the right form: these three, one behind the other, and nothing else
pub record RightForm (t : List ℕ) : Type 0 where
  pub sign : List ℕ
  pub mantissa : List ℕ
  pub exponent : List ℕ
  pub is : t ≡ sign ++ (mantissa ++ exponent)
  pub signed : Sign sign
  pub digits : Mantissa mantissa
  pub ends : Exponential exponent

-- ── What they say ──

-- digits as numbers
abbrev pub numerals : List ℕ → List ℕ
numerals l = map (λ (b : ℕ). b - code "0") l

-- a minus, and nothing else, makes negative
abbrev pub is_negative : (l : List ℕ) → Sign l → Bool
is_negative l (unsigned e) = false
is_negative l (minus e) = true
is_negative l (plus e) = false

-- the digits before the point, or all of them, and those behind it
abbrev pub whole_said : (l : List ℕ) → Mantissa l → List ℕ
whole_said l (whole d h) = numerals l
whole_said l (pointed before behind d g h e) = numerals before

abbrev pub fraction_said : (l : List ℕ) → Mantissa l → List ℕ
fraction_said l (whole d h) = []
fraction_said l (pointed before behind d g h e) = numerals behind

-- the exponent's sign and its digits; none where there is no exponent
abbrev pub down_said : (l : List ℕ) → Exponential l → Bool
down_said l (unscaled e) = false
down_said l (scaled mark sign digits m s d low high e) = is_negative sign s

abbrev pub exponent_said : (l : List ℕ) → Exponential l → List ℕ
exponent_said l (unscaled e) = []
exponent_said l (scaled mark sign digits m s d low high e) = numerals digits

-- all of it, as `normal` takes it
abbrev pub form_said : (t : List ℕ) → RightForm t → Form
form_said t r = record {
  negative = is_negative r.sign r.signed;
  whole = whole_said r.mantissa r.digits;
  fraction = fraction_said r.mantissa r.digits;
  down = down_said r.exponent r.ends;
  exponent = exponent_said r.exponent r.ends;
}
