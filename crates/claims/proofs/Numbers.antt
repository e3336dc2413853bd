-- What each run of numbers that is read is: as many as asked, each in range and normal, and each within its rule. Assumes nothing.
use mathlib.Core.Path.{◌≡◌, refl}
use mathlib.Core.Bool.{Bool, true, false, cond}
use mathlib.Core.List.{List, [], ◌∷◌, ◌++◌}
use Prim.Native.Nat.{ℕ, ◌≤◌, ◌<◌}
use native.Mathlib.Omega.{arith}
use lib.Dec.{eqb, leb, ltb}
use lib.ListN.{length, length-append}
use borrow.Author.Tests.{leb-false, ltb-false}
use Rattle.decimal.specs.declared.Decimal.{Decimal}
use Rattle.decimal.specs.Decimal.{Token}
use Rattle.std.specs.Prelude.{Ok, Err}
use Rattle.decimal.specs.declared.NumberFault.TheVariants.{Malformed, OutOfBounds}
use Rattle.decimal.specs.Decimal.{in_range}
use Rattle.decimal_read.specs.Number.{token_of}
use Rattle.decimal_write.specs.Written.{is_normal}
use Rattle.decimal_back.specs.Read.{read_held}
use Rattle.grammar.specs.Grammar.{ret, judge, settle, eat, ◌>>◌}
use Rattle.xml.specs.Bytes.{same, is_space, less_than, greater_than, slash, exclamation, question}
use Rattle.xml.specs.Xml.{byte, spaces, comment, open_name, close_name, end_tag, start_tag}
use Rattle.xml.specs.Elements.{forbidden, only_end}
use Rattle.clf.specs.Numbers.{token, said_by, fault_of, number_byte, numbers, value_rules, value_element}
use Rattle.claims.proofs.Always.{Holds, holds-all, holds-ret, holds-bad, holds-cond, holds-look, holds-look_two, holds-judge, holds-settle, holds-seq, holds_then, TurnHolds, holds-loop}

-- ---- end tags

-- an end tag is read only where nothing is missing
pub end_tag-holds : (w : List ℕ) (missing : ℕ) → Holds (λ u. missing ≡ 0) (end_tag w missing)
unfolding end_tag
end_tag-holds w missing =
    holds-settle missing (λ q. holds-all (judge (λ n. cond (same n w) 0 2) close_name >> spaces >> byte greater_than 2 >> ret tt) (λ u. q))

stranger-holds : {A : Type 0} {Q : A → Type 0} (b : ℕ) → Holds Q (forbidden b)
stranger-holds b =
    holds-cond (eqb b exclamation) (λ z. holds_then (settle 3 comment) (λ a. holds-bad 3))
    (λ z. holds-cond (eqb b question) (λ z. holds-bad 3) (λ z. holds_then (judge (λ w. 5) open_name) (λ a. holds-bad 5)))

pub only_end-holds : (w : List ℕ) (missing : ℕ) → Holds (λ u. missing ≡ 0) (only_end w missing)
unfolding only_end
only_end-holds w missing = holds-look_two (λ a b. holds-cond (eqb b slash) (λ z. end_tag-holds w missing) (λ z. stranger-holds b))

-- ---- numbers

-- each of a list
abbrev pub Each : {A : Type 0} → (A → Type 0) → List A → Type 0
Each P [] = Unit {0}
Each P (x ∷ l) = P x × Each P l

pub each_more : {A : Type 0} (P : A → Type 0) (l m : List A) → Each P l → Each P m → Each P (l ++ m)
each_more P [] m a b = b
each_more P (x ∷ l) m a b = (a.0, each_more P l m a.1 b)

pub each_map : {A : Type 0} (P Q : A → Type 0) (l : List A) → ((a : A) → P a → Q a) → Each P l → Each Q l
each_map P Q [] f e = tt
each_map P Q (x ∷ l) f e = (f x e.0, each_map P Q l f e.1)

-- a number of our form
pub record Carried (d : Decimal) : Type 0 where
  pub ranged : in_range d ≡ true
  pub settled : is_normal d ≡ true

-- and within a rule
pub record Kept (rule : Decimal → ℕ) (d : Decimal) : Type 0 where
  pub carried : Carried d
  pub within : rule d ≡ 0

-- a token that is not at fault, after `count` numbers of n
token-kept : (n : ℕ) (rule : Decimal → ℕ) (count : ℕ) (l : List ℕ) (t : Token) → token_of l ≡ t → fault_of n rule count t ≡ 0 → (count < n) × Kept rule (said_by t)
token-kept n rule count l (Err Malformed) e q = absurd (omega arith)
token-kept n rule count l (Err OutOfBounds) e q = absurd (go (leb n count) q)
  where
    go : (v : Bool) → ◌≡◌ {A = ℕ} (cond v 22 25) 0 → ⊥
    go true z = omega arith
    go false z = omega arith
token-kept n rule count l (Ok d) e q = go (leb n count) refl q
  where
    go : (v : Bool) → leb n count ≡ v → cond v 22 (rule d) ≡ 0 → (count < n) × Kept rule d
    go true f z = absurd (omega arith)
    go false f z =
        let h = read_held l d e in
        (leb-false n count f, record { carried = record { ranged = h.0; settled = h.1 }; within = z })

pub record Counted (n : ℕ) (rule : Decimal → ℕ) (l : List Decimal) : Type 0 where
  pub count : length l ≡ n
  pub kept : Each (Kept rule) l

-- so far
record Some (n : ℕ) (rule : Decimal → ℕ) (l : List Decimal) : Type 0 where
  most : length l ≤ n
  all : Each (Kept rule) l

module _ (w : List ℕ) (n : ℕ) (rule : Decimal → ℕ) where
  all_there : (l : List Decimal) → Some n rule l → ◌≡◌ {A = ℕ} (cond (ltb (length l) n) 22 0) 0 → Counted n rule l
  all_there l i z = go (ltb (length l) n) refl z
    where
      go : (v : Bool) → ltb (length l) n ≡ v → ◌≡◌ {A = ℕ} (cond v 22 0) 0 → Counted n rule l
      go true f y = absurd (omega arith)
      go false f y = let k : n ≤ length l = ltb-false (length l) n f in record { count = omega arith; kept = i.all }

  one_more : (l : List Decimal) (d : Decimal) → Some n rule l → length l < n → Kept rule d → Some n rule (l ++ d ∷ [])
  one_more l d i h k = record { most = simp length-append (omega arith); all = each_more (Kept rule) l (d ∷ []) i.all (k, tt) }

  -- the token at hand, not at fault
  token-holds : (l : List Decimal)
      → Holds (λ t. (length l < n) × Kept rule (said_by (token_of t.1))) (judge (λ t. fault_of n rule (length l) (token_of t.1)) token)
  token-holds l =
      holds-judge (λ t. Unit {0}) (λ t. fault_of n rule (length l) (token_of t.1)) (holds-all token (λ t. tt))
      (λ t u q. token-kept n rule (length l) t.1 (token_of t.1) refl q)

  turn-kept : (l : List Decimal) → Some n rule l → (b : ℕ) → Holds (TurnHolds (Some n rule) (Counted n rule)) (number_byte w n rule l b)
  turn-kept l i b =
      holds-cond (is_space b) (λ z. holds_then eat (λ a. holds-ret i))
      (λ z. holds-cond (eqb b less_than)
      (λ z. holds-seq (λ u. ◌≡◌ {A = ℕ} (cond (ltb (length l) n) 22 0) 0) (only_end-holds w (cond (ltb (length l) n) 22 0)) (λ u q. holds-ret (all_there l i q)))
      (λ z. holds-seq (λ (t : (Unit {0}) × List ℕ). (length l < n) × Kept rule (said_by (token_of t.1))) (token-holds l)
      (λ t k. holds-ret (one_more l (said_by (token_of t.1)) i k.0 k.1))))

  pub numbers-hold : Holds (Counted n rule) (numbers w n rule)
  unfolding numbers
  numbers-hold = holds-loop (Some n rule) (Counted n rule) (λ l i. holds-look (turn-kept l i)) (record { most = omega arith; all = tt })

  pub value-holds : Holds (Counted n rule) (value_element w n rule)
  unfolding value_element
  value-holds = holds_then (start_tag value_rules) (λ tag. numbers-hold)
