-- What the steps of the reader compute, in the shape of the code. The contract of `number` cites none of these.
use Rattle.std.specs.Prelude.{ℕ, ◌+◌, ◌-◌, ◌*◌, ◌^◌, ◌/◌, ◌<◌, ◌≤◌, ◌≡◌, Bool, cond, List, [], ◌∷◌, ltb, leb, eqb, pos, ◌-ℤ◌, length, drop}
use Rattle.decimal.specs.Decimal as D
use Rattle.decimal.specs.Decimal.{Token}
use Rattle.std.specs.Prelude.{Ok, Err, Option, Some, None}
use Rattle.decimal.specs.declared.NumberFault.TheVariants.{OutOfBounds}
use Rattle.decimal_read.specs.Number.{is_mark, is_empty, is_minus, behind_sign, digits_of, behind_digits, fraction_of, behind_fraction, append, with_sign, zeros}
use Rattle.decimal_read.specs.declared.Held.{Held}
use Rattle.decimal_read.specs.declared.Run.{Run}
use Rattle.decimal_read.specs.declared.Exponent.{Exponent}
use Rattle.decimal_read.specs.declared.Exponent.TheVariants.{Up, Down}

-- no digit read yet
abbrev pub no_digits : Held
no_digits = record { value = 0; dropped = 0 }

-- one digit more
unfoldable pub held_with : Held → ℕ → Held
held_with h d =
    cond (ltb h.value (10 ^ 18))
    (record { value = h.value * 10 + d; dropped = h.dropped })
    (record { value = cond (eqb d 0) h.value (10 ^ 18 + 1); dropped = h.dropped + 1 })

unfoldable pub held_all : Held → List ℕ → Held
held_all h [] = h
held_all h (d ∷ l) = held_all (held_with h d) l

-- r is the run of digits at `at`, behind the digits that h holds
pub record RunOf (t : List ℕ) (at : ℕ) (h : Held) (r : Run) : Type 0 where
  pub held : r.held ≡ held_all h (digits_of (drop at t))
  pub count : r.count ≡ length (digits_of (drop at t))
  pub rest : drop r.end t ≡ behind_digits (drop at t)
  pub place : r.end ≡ at + r.count
  pub within : r.end ≤ length t
  pub small : r.held.value < 10 ^ 19
  pub few : r.held.dropped ≤ r.end

-- r is the run of digits behind a point that stands behind the run w
pub record FractionOf (t : List ℕ) (w r : Run) : Type 0 where
  pub held : r.held ≡ held_all w.held (fraction_of (drop w.end t))
  pub count : r.count ≡ length (fraction_of (drop w.end t))
  pub rest : drop r.end t ≡ behind_fraction (drop w.end t)
  pub place : w.end + r.count ≤ r.end
  pub within : r.end ≤ length t
  pub small : r.held.value < 10 ^ 19
  pub few : r.held.dropped ≤ r.end

-- an exponent of that many digits and that size
unfoldable pub exponent_of : Bool → ℕ → ℕ → Option Exponent
exponent_of minus count n =
    cond (leb 1 count) (cond (leb count 2) (cond minus (Some (Down n)) (Some (Up n))) None) None

-- what stands behind the digits; none where that is neither nothing nor an exponent to the end
unfoldable pub exponent_at : List ℕ → Option Exponent
exponent_at [] = Some (Up 0)
exponent_at (b ∷ l) =
    let rest = behind_sign l in
    cond (is_mark b)
    (cond (is_empty (behind_digits rest))
    (exponent_of (is_minus l) (length (digits_of rest)) (append 0 (digits_of rest)))
    None)
    None

-- a number of at most 20 digits without the zeros at its end, and how many there are
unfoldable pub zeros_of : ℕ → ℕ
zeros_of v = zeros 20 v

unfoldable pub coefficient_of : ℕ → ℕ
coefficient_of v = v / 10 ^ zeros_of v

-- a coefficient times 10 to the above, over 10 to the below + 22
unfoldable pub ranged : Bool → ℕ → ℕ → ℕ → Token
ranged negative c above below =
    cond (leb (10 ^ 15) c) (Err OutOfBounds)
    (cond (ltb above below) (Err OutOfBounds)
    (cond (ltb (44 + below) above) (Err OutOfBounds)
    (Ok (record { coefficient = with_sign negative c; power = pos (above - below) -ℤ pos 22 }))))

-- the digits h, `behind` of them behind the point, times 10 to the up, over 10 to the down
unfoldable pub settled : Bool → ℕ → Held → ℕ → ℕ → ℕ → Token
settled negative size h behind up down =
    cond (leb size 64)
    (cond (eqb h.value 0) (Ok D.zero)
    (ranged negative (coefficient_of h.value) (22 + h.dropped + zeros_of h.value + up) (behind + down)))
    (Err OutOfBounds)

unfoldable pub raised : Bool → ℕ → Held → ℕ → Exponent → Token
raised negative size h behind (Up e) = settled negative size h behind e 0
raised negative size h behind (Down e) = settled negative size h behind 0 e
