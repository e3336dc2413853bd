-- The number examples of document 01, of its rule on forms and limits, and of 02's on a typo and a long number (W-204), in one table: each token and what it says. Assumes nothing.
use lib.ListN.{replicate}
use mathlib.Core.Path.{◌≡◌, refl}
use mathlib.Core.List.{List, [], ◌∷◌, ◌++◌, map}
use Prim.Native.Nat.{ℕ}
use lib.IntN.{ℤ, pos, negsuc}
use Rattle.decimal.specs.Decimal.{Token}
use Rattle.std.specs.Prelude.{Ok, Err}
use Rattle.decimal.specs.declared.NumberFault.TheVariants.{Malformed, OutOfBounds}
use Rattle.decimal_read.specs.Number.{is_digit, is_mark, is_minus, behind_sign, digits_of, behind_digits, fraction_of, behind_fraction, is_empty, is_exponent, exponent_minus, exponent_digits}
use Rattle.decimal_read.specs.Number.{form_of, append, with_sign, digits_number, scale, zeros, trailing, normal, token_by, token_of}

number : ℤ → ℤ → Token
number c p = Ok (record { coefficient = c; power = p })

pub tokens : List (List ℕ)
tokens =
    -- 0.50
    (48 ∷ 46 ∷ 53 ∷ 48 ∷ []) ∷
    -- -0
    (45 ∷ 48 ∷ []) ∷
    -- 1e22
    (49 ∷ 101 ∷ 50 ∷ 50 ∷ []) ∷
    -- 1e23
    (49 ∷ 101 ∷ 50 ∷ 51 ∷ []) ∷
    -- 0.1e23
    (48 ∷ 46 ∷ 49 ∷ 101 ∷ 50 ∷ 51 ∷ []) ∷
    -- 1000000000000000
    (49 ∷ 48 ∷ 48 ∷ 48 ∷ 48 ∷ 48 ∷ 48 ∷ 48 ∷ 48 ∷ 48 ∷ 48 ∷ 48 ∷ 48 ∷ 48 ∷ 48 ∷ 48 ∷ []) ∷
    -- 1234567890123456
    (49 ∷ 50 ∷ 51 ∷ 52 ∷ 53 ∷ 54 ∷ 55 ∷ 56 ∷ 57 ∷ 48 ∷ 49 ∷ 50 ∷ 51 ∷ 52 ∷ 53 ∷ 54 ∷ []) ∷
    -- NaN
    (78 ∷ 97 ∷ 78 ∷ []) ∷
    -- 1.
    (49 ∷ 46 ∷ []) ∷
    -- .5
    (46 ∷ 53 ∷ []) ∷
    -- 1.e5
    (49 ∷ 46 ∷ 101 ∷ 53 ∷ []) ∷
    -- +1
    (43 ∷ 49 ∷ []) ∷
    -- 1e007
    (49 ∷ 101 ∷ 48 ∷ 48 ∷ 55 ∷ []) ∷
    -- 10e22
    (49 ∷ 48 ∷ 101 ∷ 50 ∷ 50 ∷ []) ∷
    -- 10e-23
    (49 ∷ 48 ∷ 101 ∷ 45 ∷ 50 ∷ 51 ∷ []) ∷
    -- 0e99
    (48 ∷ 101 ∷ 57 ∷ 57 ∷ []) ∷
    -- -12.5e-3
    (45 ∷ 49 ∷ 50 ∷ 46 ∷ 53 ∷ 101 ∷ 45 ∷ 51 ∷ []) ∷
    -- no bytes
    ([]) ∷
    -- .
    (46 ∷ []) ∷
    -- 63 zeros and a 1: 64 bytes
    (replicate 63 48 ++ 49 ∷ []) ∷
    -- 64 zeros and a 1: 65 bytes
    (replicate 64 48 ++ 49 ∷ []) ∷
    -- 0.5x
    (48 ∷ 46 ∷ 53 ∷ 120 ∷ []) ∷
    -- 12345678901234567
    (49 ∷ 50 ∷ 51 ∷ 52 ∷ 53 ∷ 54 ∷ 55 ∷ 56 ∷ 57 ∷ 48 ∷ 49 ∷ 50 ∷ 51 ∷ 52 ∷ 53 ∷ 54 ∷ 55 ∷ []) ∷
    -- 999999999999999
    (57 ∷ 57 ∷ 57 ∷ 57 ∷ 57 ∷ 57 ∷ 57 ∷ 57 ∷ 57 ∷ 57 ∷ 57 ∷ 57 ∷ 57 ∷ 57 ∷ 57 ∷ []) ∷
    -- 1e100
    (49 ∷ 101 ∷ 49 ∷ 48 ∷ 48 ∷ []) ∷
    -- 1e99
    (49 ∷ 101 ∷ 57 ∷ 57 ∷ []) ∷
    -- 1e-22
    (49 ∷ 101 ∷ 45 ∷ 50 ∷ 50 ∷ []) ∷
    -- 1e-23
    (49 ∷ 101 ∷ 45 ∷ 50 ∷ 51 ∷ []) ∷
    -- 0.1e-22
    (48 ∷ 46 ∷ 49 ∷ 101 ∷ 45 ∷ 50 ∷ 50 ∷ []) ∷
    -- 64 zeros
    (replicate 64 48) ∷
    -- 65 zeros
    (replicate 65 48) ∷
    -- 65 zeros and an x
    (replicate 65 48 ++ 120 ∷ []) ∷
    -- -1E+5
    (45 ∷ 49 ∷ 69 ∷ 43 ∷ 53 ∷ []) ∷
    -- 10E+22
    (49 ∷ 48 ∷ 69 ∷ 43 ∷ 50 ∷ 50 ∷ []) ∷
    -- 1/
    (49 ∷ 47 ∷ []) ∷
    -- 1:
    (49 ∷ 58 ∷ []) ∷
    []

pub answers : List Token
answers =
    number (pos 5) (negsuc 0) ∷
    number (pos 0) (pos 0) ∷
    number (pos 1) (pos 22) ∷
    (Err OutOfBounds) ∷
    number (pos 1) (pos 22) ∷
    number (pos 1) (pos 15) ∷
    (Err OutOfBounds) ∷
    (Err Malformed) ∷
    number (pos 1) (pos 0) ∷
    number (pos 5) (negsuc 0) ∷
    number (pos 1) (pos 5) ∷
    number (pos 1) (pos 0) ∷
    (Err Malformed) ∷
    (Err OutOfBounds) ∷
    number (pos 1) (negsuc 21) ∷
    number (pos 0) (pos 0) ∷
    number (negsuc 124) (negsuc 3) ∷
    (Err Malformed) ∷
    (Err Malformed) ∷
    number (pos 1) (pos 0) ∷
    (Err OutOfBounds) ∷
    (Err Malformed) ∷
    (Err OutOfBounds) ∷
    number (pos 999999999999999) (pos 0) ∷
    (Err Malformed) ∷
    (Err OutOfBounds) ∷
    number (pos 1) (negsuc 21) ∷
    (Err OutOfBounds) ∷
    (Err OutOfBounds) ∷
    number (pos 0) (pos 0) ∷
    (Err OutOfBounds) ∷
    (Err Malformed) ∷
    number (negsuc 0) (pos 5) ∷
    (Err OutOfBounds) ∷
    (Err Malformed) ∷
    (Err Malformed) ∷
    []

pub examples : map token_of tokens ≡ answers
unfolding number tokens answers is_digit is_mark is_minus behind_sign digits_of behind_digits fraction_of behind_fraction is_empty is_exponent exponent_minus exponent_digits form_of append with_sign
    digits_number scale zeros trailing normal token_by token_of
examples = refl
