-- The numbers of value elements and Arrays (document 01, The file we carry, Numbers, Refusal numbers 9, 22, 21, 7; document 02, W-204, 25).
use Rattle.std.specs.Prelude.{Bool, cond, ◌||◌, List, [], ◌∷◌, ◌++◌, ℕ, eqb, leb, ltb, length}
use Rattle.decimal.specs.declared.Decimal.{Decimal}
use Rattle.decimal.specs.Decimal.{Token}
use Rattle.std.specs.Prelude.{Ok, Err}
use Rattle.decimal.specs.declared.NumberFault.TheVariants.{Malformed, OutOfBounds}
use Rattle.decimal.specs.Decimal as Decimals
use Rattle.decimal_read.specs.Number.{token_of}
use Rattle.decimal_value.specs.Value.{not_negative, positive, is_one}
use Rattle.grammar.specs.Parse.{Turn, again, last}
use Rattle.grammar.specs.Grammar.{G, ret, look, judge, eat, seq, loop, ◌>>◌}
use Rattle.xml.specs.Bytes.{is_space, less_than}
use Rattle.xml.specs.Xml.{text, Rules, start_tag}
use Rattle.xml.specs.Elements.{only_end}
use Rattle.refusals.specs.Refusals as Refusal

-- 'white space alone parts the numbers': a token ends at white space or at `<`; `&` forms in it part nothing
abbrev pub ends_token : ℕ → Bool
ends_token b = is_space b || eqb b less_than

unfoldable pub token : G ((Unit {0}) × List ℕ)
token = text ends_token

-- the number that a token says. One that says none is at fault (`fault_of`), so that the zero is never taken
abbrev pub said_by : Token → Decimal
said_by (Ok d) = d
said_by (Err Malformed) = Decimals.zero
said_by (Err OutOfBounds) = Decimals.zero

-- what a token is at fault of, after so many numbers of n. 9 if it is no number, whatever else it breaks. 22 if it is of the right form and one too many: the rules are on the numbers that the element
-- asks for, and of 22 and 25 at one place the lowest is given. 25 if it is one of these and out of bounds (02, W-204), whatever the rule. Else what the rule says of the number
abbrev pub fault_of : ℕ → (Decimal → ℕ) → ℕ → Token → ℕ
fault_of n rule count (Ok d) = cond (leb n count) Refusal.wrong_count (rule d)
fault_of n rule count (Err Malformed) = Refusal.no_number
fault_of n rule count (Err OutOfBounds) = cond (leb n count) Refusal.wrong_count Refusal.out_of_bounds

-- 'A token is judged at its end', and placed at its first byte; at the end tag too few numbers are 22
abbrev pub number_byte : List ℕ → ℕ → (Decimal → ℕ) → List Decimal → ℕ → G (Turn (List Decimal) (List Decimal))
number_byte w n rule l b =
    cond (is_space b) (eat >> ret (again l))
    (cond (eqb b less_than) (only_end w (cond (ltb (length l) n) Refusal.wrong_count 0) >> ret (last l))
    (seq (judge (λ t. fault_of n rule (length l) (token_of t.1)) token) (λ t. ret (again (l ++ said_by (token_of t.1) ∷ [])))))

-- the n numbers of an element of this name, each kept to the rule, and its end tag
unfoldable pub numbers : List ℕ → ℕ → (Decimal → ℕ) → G (List Decimal)
numbers w n rule = loop (λ l. look (number_byte w n rule l)) []

-- ---- rules on one number

abbrev pub any_number : Decimal → ℕ
any_number d = 0

-- 'Slope ≥ 0', 'Saturation ≥ 0': 21
abbrev pub not_below_zero : Decimal → ℕ
not_below_zero d = cond (not_negative d) 0 Refusal.rule_broken

-- 'Power > 0' is 21, 'a Power above 0 that is not 1' 7
abbrev pub must_be_one : Decimal → ℕ
must_be_one d = cond (positive d) (cond (is_one d) 0 Refusal.not_carried) Refusal.rule_broken

-- ---- value elements

-- one that is empty has too few numbers: 22 at the `/>`
abbrev pub value_rules : Rules
value_rules = record { names = λ w. 0; texts = λ w t. 0; opened = λ l. 0; emptied = λ l. Refusal.wrong_count }

-- a value element of this name, after its name
unfoldable pub value_element : List ℕ → ℕ → (Decimal → ℕ) → G (List Decimal)
value_element w n rule = start_tag value_rules >> numbers w n rule
