-- What the answers of the code mean, and what becomes of the room.
use Rattle.std.specs.Prelude.{◌≡◌, true, List, ℕ, zero, suc, ◌≤◌, ◌<◌, length, drop, get_or}
use Rattle.decimal.specs.declared.Decimal.{Decimal}
use Rattle.decimal_read.specs.Number.{token_of}
use Rattle.decimal_read.specs.RightForm.{RightForm}
use Rattle.decimal_read.specs.Told.{Beyond}
use Rattle.grammar.specs.Parse.{Out, done, fault, cut, Parser}
use Rattle.grammar.specs.Grammar.{G, ret, judge, seq}
use Rattle.xml.specs.Code.{Scan}
use Rattle.std.specs.Prelude.{Result, Ok, Err}
use Rattle.xml.specs.declared.Stop.{Stop}
use Rattle.xml.specs.declared.Stop.TheVariants.{Fault, Cut}
use Rattle.xml.specs.Code.{part, scan_out, Inside, Reads}
use Rattle.room.specs.Room.{Room, laid_in, cleared_from}
use Rattle.clf.specs.Numbers.{ends_token, token, fault_of, said_by, any_number, not_below_zero, must_be_one}
use Rattle.values.specs.declared.Rule.{Rule}
use Rattle.values.specs.declared.Rule.TheVariants as Rules
use Rattle.values.specs.declared.TokenRead.{TokenRead}

-- the rule on one number, by its name in the code
unfoldable pub rule_of : Rule → Decimal → ℕ
rule_of Rules.Any = any_number
rule_of Rules.NotNegative = not_below_zero
rule_of Rules.One = must_be_one

-- ---- tokens

-- a next place is a byte that ends a token
abbrev pub Ended : List ℕ → Scan → Type 0
Ended s (Ok e) = ends_token (get_or s e 0) ≡ true
Ended s (Err x) = Unit

-- the bytes of a token, read from `at` on
pub record TokenBytes (s : List ℕ) (at : ℕ) (r : Scan) : Type 0 where
  pub reads : Reads 0 token.run (λ e. (tt, part s at e)) s at r
  pub ended : Ended s r

-- the number of a token, after so many of n: what `Numbers.number_byte` reads where no white space and no `<` stands
abbrev pub number_token : ℕ → (Decimal → ℕ) → ℕ → G Decimal
number_token n rule count = seq (judge (λ t. fault_of n rule count (token_of t.1)) token) (λ t. ret (said_by (token_of t.1)))

abbrev pub token_out : List ℕ → Result TokenRead Stop → Out Decimal
token_out s (Ok t) = done t.number (drop t.end s)
token_out s (Err (Fault k p)) = fault k (drop p s)
token_out s (Err Cut) = cut

-- every place is within the bytes; a number is one of the n, and behind it stands a byte that ends a token
abbrev pub TokenInside : ℕ → ℕ → List ℕ → ℕ → Result TokenRead Stop → Type 0
TokenInside n count s at (Ok t) = (count < n) × (at ≤ t.end) × (t.end ≤ length s) × (ends_token (get_or s t.end 0) ≡ true)
TokenInside n count s at (Err (Fault k p)) = (at ≤ p) × (p ≤ length s)
TokenInside n count s at (Err Cut) = Unit

-- what is answered for the token w that stands at `at`, after `count` numbers of n (02, W-204, 'every caller passes it on'): 9 if its form is wrong; 22 if it is of the right form and one too many; 25 if it
-- is asked for and out of bounds, whatever the rule
pub record TokenTold (n count at : ℕ) (w : List ℕ) (r : Result TokenRead Stop) : Type 0 where
  pub malformed : (RightForm w → ⊥) → r ≡ Err (Fault 9 at)
  pub surplus : RightForm w → n ≤ count → r ≡ Err (Fault 22 at)
  pub out_of_bounds : Beyond w → count < n → r ≡ Err (Fault 25 at)

-- a token read from `at` on, after `count` numbers of n
pub record TokenReads (n : ℕ) (rule : Decimal → ℕ) (count : ℕ) (s : List ℕ) (at : ℕ) (r : Result TokenRead Stop) : Type 0 where
  pub out : token_out s r ≡ (number_token n rule count).run (drop at s)
  pub inside : TokenInside n count s at r
  pub told : (w rest : List ℕ) → token.run (drop at s) ≡ done (tt, w) rest → TokenTold n count at w r

-- the answer for the number d of a token from `at` to e, by its fault; 0 is none
abbrev pub judged_as : ℕ → Decimal → ℕ → ℕ → Result TokenRead Stop
judged_as zero d at e = Ok (record { number = d; end = e })
judged_as (suc k) d at e = Err (Fault (suc k) at)

-- ---- numbers in the room

-- the numbers xs stand in the room from `base` on, as far as it goes, and nothing else has changed
abbrev pub Laid : ℕ → List Decimal → Room → Room → Type 0
Laid base xs m₀ m₁ = m₁ ≡ laid_in base xs m₀

-- the room after numbers were read with this answer: they stand from `base` on; at a fault, or where the bytes end, it is zero from `base` on
abbrev pub room_after : ℕ → Scan → List Decimal → Room → Room
room_after base (Ok e) xs m = laid_in base xs m
room_after base (Err x) xs m = cleared_from base m

-- n numbers, where the answer is a next place
abbrev pub Counted : ℕ → Scan → List Decimal → Type 0
Counted n (Ok e) xs = length xs ≡ n
Counted n (Err x) xs = Unit

-- numbers read from `at` on: the answer is p's, and where it is a next place its value is the numbers that now stand in the room
pub record NumbersRead (n : ℕ) (p : Parser (List Decimal)) (s : List ℕ) (at base : ℕ) (r : Scan) (m₀ m₁ : Room) : Type 0 where
  pub xs : List Decimal
  pub out : scan_out (λ e. xs) s r ≡ p (drop at s)
  pub inside : Inside 1 s at r
  pub counted : Counted n r xs
  pub room : m₁ ≡ room_after base r xs m₀

-- the same before the room is cleared: at a fault some numbers, whichever, stand there from `base` on, and nothing else has changed
pub record NumbersStored (n : ℕ) (p : Parser (List Decimal)) (s : List ℕ) (at base : ℕ) (r : Scan) (m₀ m₁ : Room) : Type 0 where
  pub xs : List Decimal
  pub out : scan_out (λ e. xs) s r ≡ p (drop at s)
  pub inside : Inside 1 s at r
  pub counted : Counted n r xs
  pub room : Laid base xs m₀ m₁

-- what is left of the room by an answer: zero from `base` on, where that is no next place
abbrev pub kept_or_cleared : ℕ → Scan → Room → Room
kept_or_cleared base (Ok e) m = m
kept_or_cleared base (Err x) m = cleared_from base m
