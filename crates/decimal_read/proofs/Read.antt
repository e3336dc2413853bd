-- The steps of the reader, taken together, give what the definition says of the token. Assumes nothing.
use Prim.Native.Nat.{ℕ, ◌+◌, ◌*◌, ◌^◌, ◌≤◌, ◌<◌}
use mathlib.Core.Path.{◌≡◌, refl, sym, ap, ◌∙◌, subst}
use mathlib.Core.Bool.{Bool, true, false, cond, ◌&&◌}
use mathlib.Core.List.{List, [], ◌∷◌, ◌++◌}
use mathlib.Core.Option.{none, some}
use native.Mathlib.Nat.{pow-le-pow_right, le-mul_of_pos_right, mul-one}
use native.Mathlib.Omega.{arith}
use borrow.Author.Tests.{ltb-true, ltb-false, lt-leb, le-leb}
use lib.Dec.{ltb, leb}
use lib.IntN.{sub_ℕ}
use lib.ListN.{length, drop}
use Rattle.decimal.specs.Decimal.{Token}
use Rattle.std.specs.Prelude.{Err, Option, Some, None}
use Rattle.decimal.specs.declared.NumberFault.TheVariants.{Malformed}
use Rattle.decimal_read.specs.declared.Held.{Held}
use Rattle.decimal_read.specs.declared.Run.{Run}
use Rattle.decimal_read.specs.declared.Exponent.{Exponent}
use Rattle.decimal_read.specs.declared.Exponent.TheVariants.{Up, Down}
use Rattle.decimal_read.specs.Number.{Form, is_mark, is_empty, is_minus, behind_sign, digits_of, behind_digits, fraction_of, behind_fraction, is_exponent, exponent_minus}
use Rattle.decimal_read.specs.Number.{exponent_digits, append, digits_number, scale, token_by, form_of, token_of}
use Rattle.decimal_read.specs.Steps.{no_digits, held_all, RunOf, FractionOf, exponent_of, exponent_at, raised}
use Rattle.decimal_read.proofs.Zeros.{pow-above, least}
use Rattle.decimal_read.proofs.Stands.{Small, digits-small, fraction-small, both_small, held_both, append-lt, Stands, exact, lost, none_read, stands-all}
use Rattle.decimal_read.proofs.Ranged.{power-up, power-down}
use Rattle.decimal_read.proofs.Settled.{settled_is}

-- ── At most two digits are held as they are ──

held-short : (n : ℕ) (h : Held) → n < 100 → Stands n h → h.value ≡ n
held-short n h l (exact e p) = go (ltb h.value (10 ^ 18)) refl
  where
    go : (t : Bool) → ltb h.value (10 ^ 18) ≡ t → h.value ≡ n
    go true q = sym (e ∙ ap (λ (k : ℕ). h.value * 10 ^ k) (p (ltb-true h.value (10 ^ 18) q)) ∙ mul-one h.value)
    go false q = absurd (omega (arith, e, ltb-false h.value (10 ^ 18) q, le-mul_of_pos_right h.value (pow-above h.dropped)))
held-short n h l (lost e s m) = absurd (omega (arith, least s))

pub short-lt : (l : List ℕ) → length (digits_of l) ≤ 2 → append 0 (digits_of l) < 100
short-lt l h = omega (arith, append-lt 0 (digits-small l), pow-le-pow_right {n = 10} (omega arith) h)

pub short-is : (l : List ℕ) → length (digits_of l) ≤ 2 → (held_all no_digits (digits_of l)).value ≡ append 0 (digits_of l)
short-is l h = held-short (append 0 (digits_of l)) (held_all no_digits (digits_of l)) (short-lt l h) (stands-all 0 no_digits (digits-small l) none_read)

-- ── Behind the digits ──

abbrev form_with : Bool → List ℕ → List ℕ → Bool → List ℕ → Form
form_with s w p minus e = record { negative = s; whole = w; fraction = p; down = minus; exponent = e }

-- what a token says whose exponent is x, or that has none of the form
abbrev raised_by : Bool → ℕ → Held → ℕ → Option Exponent → Token
raised_by s n h b None = Err Malformed
raised_by s n h b (Some x) = raised s n h b x

module _ (s : Bool) (w p : List ℕ) (n : ℕ) (h : Held) (small : Small (w ++ p)) (fits : h.value < 10 ^ 19) (stands : Stands (append 0 (w ++ p)) h) where
  either : (minus : Bool) (e : List ℕ) → raised_by s n h (length p) (cond minus (Some (Down (append 0 e))) (Some (Up (append 0 e)))) ≡ token_by n (some (form_with s w p minus e))
  unfolding raised digits_number scale
  either true e = settled_is (form_with s w p true e) h 0 (append 0 e) small fits stands (λ m. power-down (append 0 e) (length p) m ∙ ap (λ (k : ℕ). sub_ℕ k (length p + append 0 e)) (omega arith)) n
  either false e = settled_is (form_with s w p false e) h (append 0 e) 0 small fits stands (λ m. power-up (append 0 e) (length p) m ∙ ap (λ (k : ℕ). sub_ℕ (append 0 e + m) k) (omega arith)) n

  tests : (a b c d : Bool) (e : Option Exponent) (y : Token) → raised_by s n h (length p) e ≡ y
      → raised_by s n h (length p) (cond a (cond b (cond c (cond d e None) None) None) None) ≡ cond (a && (b && (c && d))) y (Err Malformed)
  tests true true true true e y q = q
  tests true true true false e y q = refl
  tests true true false d e y q = refl
  tests true false c d e y q = refl
  tests false b c d e y q = refl

  behind : (rest : List ℕ) → raised_by s n h (length p) (exponent_at rest) ≡ cond (is_exponent rest) (token_by n (some (form_with s w p (exponent_minus rest) (exponent_digits rest)))) (Err Malformed)
  unfolding exponent_at is_exponent exponent_minus exponent_digits exponent_of append
  behind [] = either false []
  behind (b ∷ l) =
      let e : List ℕ = digits_of (behind_sign l) in
      tests (is_mark b) (is_empty (behind_digits (behind_sign l))) (leb 1 (length e)) (leb (length e) 2) (cond (is_minus l) (Some (Down (append 0 e))) (Some (Up (append 0 e))))
      (token_by n (some (form_with s w p (is_minus l) e))) (either (is_minus l) e)

-- ── The token ──

pick : (n : ℕ) (b : Bool) (f : Form) → cond b (token_by n (some f)) (Err Malformed) ≡ token_by n (cond b (some f) none)
unfolding token_by
pick n true f = refl
pick n false f = refl

module _ (t : List ℕ) (from : ℕ) (w p : Run) (e : drop from t ≡ behind_sign t) (r : RunOf t from no_digits w) (q : FractionOf t w p) where
  abbrev body : List ℕ
  body = behind_sign t

  abbrev whole : List ℕ
  whole = digits_of body

  abbrev part : List ℕ
  part = fraction_of (behind_digits body)

  abbrev rest : List ℕ
  rest = behind_fraction (behind_digits body)

  whole-count : w.count ≡ length whole
  whole-count = r.count ∙ ap (λ (l : List ℕ). length (digits_of l)) e

  at-point : drop w.end t ≡ behind_digits body
  at-point = r.rest ∙ ap behind_digits e

  part_count : p.count ≡ length part
  part_count = q.count ∙ ap (λ (l : List ℕ). length (fraction_of l)) at-point

  at_rest : drop p.end t ≡ rest
  at_rest = q.rest ∙ ap behind_fraction at-point

  held : p.held ≡ held_all no_digits (whole ++ part)
  held =
      q.held ∙ ap (λ (l : List ℕ). held_all w.held (fraction_of l)) at-point ∙ ap (λ (h : Held). held_all h part) (r.held ∙ ap (λ (l : List ℕ). held_all no_digits (digits_of l)) e)
      ∙ sym (held_both no_digits whole part)

  all_small : Small (whole ++ part)
  all_small = both_small (digits-small body) (fraction-small (behind_digits body))

  stands : Stands (append 0 (whole ++ part)) p.held
  stands = subst (λ (h : Held). Stands (append 0 (whole ++ part)) h) (sym held) (stands-all 0 no_digits all_small none_read)

  pub read_none : w.count + p.count < 1 → (Err Malformed) ≡ token_of t
  unfolding token_of form_of token_by
  read_none h = rw (lt-leb 1 (length whole + length part) (omega (arith, whole-count, part_count)))

  read_by : 1 ≤ w.count + p.count → (x : Option Exponent) → x ≡ exponent_at (drop p.end t) → raised_by (is_minus t) (length t) p.held p.count x ≡ token_of t
  unfolding token_of form_of
  read_by h x y =
      ap (λ (k : ℕ). raised_by (is_minus t) (length t) p.held k x) part_count ∙
      ap (λ (z : Option Exponent). raised_by (is_minus t) (length t) p.held (length part) z) (y ∙ ap exponent_at at_rest) ∙
      behind (is_minus t) whole part (length t) p.held all_small q.small stands rest ∙
      rw (le-leb 1 (length whole + length part) (omega (arith, whole-count, part_count)))
      (pick (length t) (is_exponent rest) (form_with (is_minus t) whole part (exponent_minus rest) (exponent_digits rest)))

  pub read_wrong : 1 ≤ w.count + p.count → (o : Option Exponent) → o ≡ exponent_at (drop p.end t) → o ≡ None → (Err Malformed) ≡ token_of t
  read_wrong h o y e = read_by h None (sym e ∙ y)

  pub read_some : 1 ≤ w.count + p.count → (o : Option Exponent) → o ≡ exponent_at (drop p.end t) → (x : Exponent) → o ≡ Some x → (m : Bool) → m ≡ is_minus t → (r : Token) → r ≡ raised m (length t) p.held p.count x
      → r ≡ token_of t
  read_some h o y x e m s r z = z ∙ ap (λ (b : Bool). raised b (length t) p.held p.count x) s ∙ read_by h (Some x) (sym e ∙ y)
