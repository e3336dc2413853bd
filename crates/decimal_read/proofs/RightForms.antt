-- A token has a form exactly if it is of the right form, piece by piece, and that form says what the pieces say. Assumes nothing.
use mathlib.Core.Path.{◌≡◌, refl, sym, ap, ◌∙◌, subst}
use mathlib.Core.Bool.{Bool, true, false, cond, ◌&&◌, ◌||◌, false≢true}
use mathlib.Core.List.{List, [], ◌∷◌, ◌++◌, append_assoc, append-nil}
use mathlib.Core.Logic.{◌⊎◌, inl, inr}
use mathlib.Core.Option.{none, some, none-ne-some}
use Prim.Native.Nat.{ℕ, suc, ◌+◌, ◌-◌, ◌≤◌}
use native.Mathlib.Omega.{arith}
use borrow.Author.Tests.{leb-true, le-leb, eqb-true, ne_eqb}
use lib.Dec.{leb, eqb}
use lib.ListN.{length, length-map}
use Rattle.decimal_read.specs.Number.{is_digit, is_mark, is_minus, behind_sign, digits_of, behind_digits, fraction_of, behind_fraction, is_empty, is_exponent, exponent_minus, exponent_digits, Form, form_of}
use Rattle.decimal_read.specs.RightForm.{Digits, Sign, unsigned, minus, plus, Mantissa, whole, pointed, Exponential, unscaled, scaled, RightForm}
use Rattle.decimal_read.specs.RightForm.{numerals, is_negative, whole_said, fraction_said, down_said, exponent_said, form_said}

-- ── Tests that are both true ──

first : (a b : Bool) → (a && b) ≡ true → a ≡ true
first true b h = refl
first false b h = absurd (false≢true h)

second : (a b : Bool) → (a && b) ≡ true → b ≡ true
second true b h = h
second false b h = absurd (false≢true h)

-- ── Bytes ──

digit-bounds : (b : ℕ) → is_digit b ≡ true → (48 ≤ b) × (b ≤ 57)
unfolding is_digit
digit-bounds b h = (leb-true 48 b (first (leb 48 b) (leb b 57) h), leb-true b 57 (second (leb 48 b) (leb b 57) h))

bounds-digit : (b : ℕ) → (48 ≤ b) × (b ≤ 57) → is_digit b ≡ true
unfolding is_digit
bounds-digit b h = rw (le-leb 48 b h.0, le-leb b 57 h.1)

either : (a b : Bool) → (a || b) ≡ true → (a ≡ true) ⊎ (b ≡ true)
either true b h = inl refl
either false b h = inr h

mark-is : (b : ℕ) → is_mark b ≡ true → (b ≡ 101) ⊎ (b ≡ 69)
unfolding is_mark
mark-is b h = go (either (eqb b 101) (eqb b 69) h)
  where
    go : (eqb b 101 ≡ true) ⊎ (eqb b 69 ≡ true) → (b ≡ 101) ⊎ (b ≡ 69)
    go (inl e) = inl (eqb-true b 101 e)
    go (inr e) = inr (eqb-true b 69 e)

-- ── From the test to the pieces ──

pub record Signed (t : List ℕ) : Type 0 where
  sign : List ℕ
  is : Sign sign
  all : t ≡ sign ++ behind_sign t

sign-split : (t : List ℕ) → Signed t
unfolding behind_sign
sign-split [] = record { sign = []; is = unsigned refl; all = refl }
sign-split (b ∷ l) = go (eqb b 45) refl (eqb b 43) refl
  where
    rest : Bool → Bool → List ℕ
    rest v w = cond (v || w) l (b ∷ l)

    split : (v w : Bool) → eqb b 45 ≡ v → eqb b 43 ≡ w → (s : List ℕ) → Sign s → b ∷ l ≡ s ++ rest v w → Signed (b ∷ l)
    split v w e f s i a = record { sign = s; is = i; all = a ∙ ap (λ (z : List ℕ). s ++ z) (ap (λ (x : Bool). rest x w) (sym e) ∙ ap (λ (x : Bool). rest (eqb b 45) x) (sym f)) }

    go : (v : Bool) → eqb b 45 ≡ v → (w : Bool) → eqb b 43 ≡ w → Signed (b ∷ l)
    go true e w f = split true w e f (b ∷ []) (minus (ap (λ (x : ℕ). x ∷ []) (eqb-true b 45 e))) refl
    go false e true f = split false true e f (b ∷ []) (plus (ap (λ (x : ℕ). x ∷ []) (eqb-true b 43 f))) refl
    go false e false f = split false false e f [] (unsigned refl) refl

record Run (l : List ℕ) : Type 0 where
  bytes : List ℕ
  are : Digits bytes
  count : length bytes ≡ length (digits_of l)
  all : l ≡ bytes ++ behind_digits l

digits-split : (l : List ℕ) → Run l
unfolding digits_of behind_digits
digits-split [] = record { bytes = []; are = tt; count = refl; all = refl }
digits-split (b ∷ l) = go (is_digit b) refl (digits-split l)
  where
    go : (v : Bool) → is_digit b ≡ v → Run l → Run (b ∷ l)
    go true e r = record {
      bytes = b ∷ r.bytes;
      are = (digit-bounds b e, r.are);
      count = ap suc r.count ∙ ap (λ (x : Bool). length (cond x ((b - 48) ∷ digits_of l) [])) (sym e);
      all = ap (λ (z : List ℕ). b ∷ z) r.all ∙ ap (λ (x : Bool). (b ∷ r.bytes) ++ cond x (behind_digits l) (b ∷ l)) (sym e);
    }
    go false e r = record {
      bytes = [];
      are = tt;
      count = ap (λ (x : Bool). length (cond x ((b - 48) ∷ digits_of l) [])) (sym e);
      all = ap (λ (x : Bool). cond x (behind_digits l) (b ∷ l)) (sym e);
    }

empty-is : (l : List ℕ) → is_empty l ≡ true → l ≡ []
unfolding is_empty
empty-is [] h = refl
empty-is (b ∷ l) h = absurd (false≢true h)

exponent-split : (l : List ℕ) → is_exponent l ≡ true → Exponential l
unfolding is_exponent
exponent-split [] h = unscaled refl
exponent-split (b ∷ l) h =
    let r : List ℕ = behind_sign l in
    let n : ℕ = length (digits_of r) in
    let q : (is_empty (behind_digits r) && (leb 1 n && leb n 2)) ≡ true = second (is_mark b) (is_empty (behind_digits r) && (leb 1 n && leb n 2)) h in
    let k : (leb 1 n && leb n 2) ≡ true = second (is_empty (behind_digits r)) (leb 1 n && leb n 2) q in
    let s : Signed l = sign-split l in
    let d : Run r = digits-split r in
    let low : 1 ≤ n = leb-true 1 n (first (leb 1 n) (leb n 2) k) in
    let high : n ≤ 2 = leb-true n 2 (second (leb 1 n) (leb n 2) k) in
    let z : r ≡ d.bytes = d.all ∙ ap (λ (x : List ℕ). d.bytes ++ x) (empty-is (behind_digits r) (first (is_empty (behind_digits r)) (leb 1 n && leb n 2) q)) ∙ append-nil d.bytes in
    scaled b s.sign d.bytes (mark-is b (first (is_mark b) (is_empty (behind_digits r) && (leb 1 n && leb n 2)) h)) s.is d.are (omega (arith, d.count)) (omega (arith, d.count))
    (ap (λ (x : List ℕ). b ∷ x) (s.all ∙ ap (λ (x : List ℕ). s.sign ++ x) z))

-- the test of `form_of`, of what stands behind the sign
abbrev has_form : List ℕ → Bool
has_form body = leb 1 (length (digits_of body) + length (fraction_of (behind_digits body))) && is_exponent (behind_fraction (behind_digits body))

-- what stands behind the sign, as mantissa and exponent
record Parted (body : List ℕ) : Type 0 where
  mantissa : List ℕ
  exponent : List ℕ
  is : body ≡ mantissa ++ exponent
  digits : Mantissa mantissa
  ends : Exponential exponent

module _ (body : List ℕ) (w : Run body) where
  -- no point stands behind the digits
  no-point : (behind : List ℕ) → behind_digits body ≡ behind → fraction_of behind ≡ [] → behind_fraction behind ≡ behind
      → (leb 1 (length (digits_of body) + length (fraction_of behind)) && is_exponent (behind_fraction behind)) ≡ true → Parted body
  no-point behind e f g h =
      let n : 1 ≤ length (digits_of body) + length (fraction_of behind) =
      leb-true 1 (length (digits_of body) + length (fraction_of behind)) (first (leb 1 (length (digits_of body) + length (fraction_of behind))) (is_exponent (behind_fraction behind)) h) in
      record {
        mantissa = w.bytes;
        exponent = behind;
        is = w.all ∙ ap (λ (x : List ℕ). w.bytes ++ x) e;
        digits = whole w.are (omega (arith, w.count, ap length f));
        ends = exponent-split behind (ap is_exponent (sym g) ∙ second (leb 1 (length (digits_of body) + length (fraction_of behind))) (is_exponent (behind_fraction behind)) h);
      }

  -- a point and the digits behind it
  point : (b : ℕ) (l : List ℕ) → behind_digits body ≡ b ∷ l → b ≡ 46 → (leb 1 (length (digits_of body) + length (digits_of l)) && is_exponent (behind_digits l)) ≡ true → Parted body
  point b l e p h =
      let f : Run l = digits-split l in
      let n : 1 ≤ length (digits_of body) + length (digits_of l) =
      leb-true 1 (length (digits_of body) + length (digits_of l)) (first (leb 1 (length (digits_of body) + length (digits_of l))) (is_exponent (behind_digits l)) h) in
      record {
        mantissa = w.bytes ++ 46 ∷ f.bytes;
        exponent = behind_digits l;
        is = w.all ∙ ap (λ (x : List ℕ). w.bytes ++ x) (e ∙ ap (λ (x : ℕ). x ∷ l) p ∙ ap (λ (x : List ℕ). 46 ∷ x) f.all) ∙ sym (append_assoc w.bytes (46 ∷ f.bytes) (behind_digits l));
        digits = pointed w.bytes f.bytes w.are f.are (omega (arith, w.count, f.count)) refl;
        ends = exponent-split (behind_digits l) (second (leb 1 (length (digits_of body) + length (digits_of l))) (is_exponent (behind_digits l)) h);
      }

  parted : (behind : List ℕ) → behind_digits body ≡ behind → (leb 1 (length (digits_of body) + length (fraction_of behind)) && is_exponent (behind_fraction behind)) ≡ true → Parted body
  unfolding fraction_of behind_fraction
  parted [] e h = no-point [] e refl refl h
  parted (b ∷ l) e h = go (eqb b 46) refl
    where
      go : (v : Bool) → eqb b 46 ≡ v → Parted body
      go true q =
          point b l e (eqb-true b 46 q)
          (ap (λ (v : Bool). leb 1 (length (digits_of body) + length (cond v (digits_of l) [])) && is_exponent (cond v (behind_digits l) (b ∷ l))) (sym q) ∙ h)
      go false q = no-point (b ∷ l) e (ap (λ (v : Bool). cond v (digits_of l) []) q) (ap (λ (v : Bool). cond v (behind_digits l) (b ∷ l)) q) h

by-test : (t : List ℕ) → has_form (behind_sign t) ≡ true → RightForm t
by-test t h =
    let s : Signed t = sign-split t in
    let p : Parted (behind_sign t) = parted (behind_sign t) (digits-split (behind_sign t)) (behind_digits (behind_sign t)) refl h in
    record {
      sign = s.sign;
      mantissa = p.mantissa;
      exponent = p.exponent;
      is = s.all ∙ ap (λ (x : List ℕ). s.sign ++ x) p.is;
      signed = s.is;
      digits = p.digits;
      ends = p.ends;
    }

-- ── From the pieces to the test ──

-- no digit stands at the beginning
record Stops (l : List ℕ) : Type 0 where
  none-there : digits_of l ≡ []
  stays : behind_digits l ≡ l

stops-nil : Stops []
unfolding digits_of behind_digits
stops-nil = record { none-there = refl; stays = refl }

stops_at : (b : ℕ) (l : List ℕ) → is_digit b ≡ false → Stops (b ∷ l)
unfolding digits_of behind_digits
stops_at b l h = record { none-there = ap (λ (v : Bool). cond v ((b - 48) ∷ digits_of l) []) h; stays = ap (λ (v : Bool). cond v (behind_digits l) (b ∷ l)) h }

run-behind : (w l : List ℕ) → Digits w → Stops l → behind_digits (w ++ l) ≡ l
unfolding behind_digits
run-behind [] l d s = s.stays
run-behind (b ∷ w) l d s = ap (λ (v : Bool). cond v (behind_digits (w ++ l)) (b ∷ (w ++ l))) (bounds-digit b d.0) ∙ run-behind w l d.1 s

run-digits : (w l : List ℕ) → Digits w → Stops l → digits_of (w ++ l) ≡ numerals w
unfolding digits_of
run-digits [] l d s = s.none-there
run-digits (b ∷ w) l d s = ap (λ (v : Bool). cond v ((b - 48) ∷ digits_of (w ++ l)) []) (bounds-digit b d.0) ∙ ap (λ (x : List ℕ). (b - 48) ∷ x) (run-digits w l d.1 s)

-- alone, with nothing behind them
alone-behind : (w : List ℕ) → Digits w → behind_digits w ≡ []
alone-behind w d = ap behind_digits (sym (append-nil w)) ∙ run-behind w [] d stops-nil

alone-digits : (w : List ℕ) → Digits w → digits_of w ≡ numerals w
alone-digits w d = ap digits_of (sym (append-nil w)) ∙ run-digits w [] d stops-nil

-- no sign stands at the beginning
record Bare (l : List ℕ) : Type 0 where
  stays : behind_sign l ≡ l
  above : is_minus l ≡ false

bare-at : (b : ℕ) (l : List ℕ) → (b ≡ 45 → ⊥) → (b ≡ 43 → ⊥) → Bare (b ∷ l)
unfolding behind_sign is_minus
bare-at b l h k = record {
  stays = ap (λ (v : Bool). cond (v || eqb b 43) l (b ∷ l)) (ne_eqb b 45 h) ∙ ap (λ (v : Bool). cond v l (b ∷ l)) (ne_eqb b 43 k);
  above = ne_eqb b 45 h;
}

-- digits, of which there is one at least
bare-digits : (w l : List ℕ) → Digits w → 1 ≤ length w → Bare (w ++ l)
bare-digits [] l d h = absurd (omega arith)
bare-digits (b ∷ w) l d h = bare-at b (w ++ l) (λ e. omega (arith, d.0.0, d.0.1)) (λ e. omega (arith, d.0.0, d.0.1))

sign-behind : (s l : List ℕ) → Sign s → Bare l → behind_sign (s ++ l) ≡ l
unfolding behind_sign
sign-behind s l (unsigned e) h = ap (λ (x : List ℕ). behind_sign (x ++ l)) e ∙ h.stays
sign-behind s l (minus e) h = ap (λ (x : List ℕ). behind_sign (x ++ l)) e
sign-behind s l (plus e) h = ap (λ (x : List ℕ). behind_sign (x ++ l)) e

sign-says : (s l : List ℕ) (i : Sign s) → Bare l → is_minus (s ++ l) ≡ is_negative s i
unfolding is_minus
sign-says s l (unsigned e) h = ap (λ (x : List ℕ). is_minus (x ++ l)) e ∙ h.above
sign-says s l (minus e) h = ap (λ (x : List ℕ). is_minus (x ++ l)) e
sign-says s l (plus e) h = ap (λ (x : List ℕ). is_minus (x ++ l)) e

-- an exponent as the reader sees it, its sign and its digits
record Scales (l : List ℕ) (down : Bool) (digits : List ℕ) : Type 0 where
  passes : is_exponent l ≡ true
  stops : Stops l
  no_fraction : fraction_of l ≡ []
  stays : behind_fraction l ≡ l
  sign : exponent_minus l ≡ down
  says : exponent_digits l ≡ digits

module _ (mark : ℕ) (sign digits : List ℕ) (s : Sign sign) (d : Digits digits) (low : 1 ≤ length digits) (high : length digits ≤ 2) where
  bare : Bare digits
  bare = subst Bare (append-nil digits) (bare-digits digits [] d low)

  behind-mark : behind_sign (sign ++ digits) ≡ digits
  behind-mark = sign-behind sign digits s bare

  all-count : length (digits_of digits) ≡ length digits
  all-count = ap length (alone-digits digits d) ∙ length-map digits (λ (b : ℕ). b - 48)

  exponent-passes : is_mark mark ≡ true → is_exponent (mark ∷ sign ++ digits) ≡ true
  unfolding is_exponent is_empty
  exponent-passes m =
      ap (λ (v : Bool). v && test (behind_sign (sign ++ digits))) m ∙ ap test behind-mark
      ∙ ap (λ (x : List ℕ). is_empty x && (leb 1 (length (digits_of digits)) && leb (length (digits_of digits)) 2)) (alone-behind digits d)
      ∙ ap (λ (n : ℕ). leb 1 n && leb n 2) all-count
      ∙ ap (λ (v : Bool). v && leb (length digits) 2) (le-leb 1 (length digits) low)
      ∙ le-leb (length digits) 2 high
    where
      test : List ℕ → Bool
      test r = is_empty (behind_digits r) && (leb 1 (length (digits_of r)) && leb (length (digits_of r)) 2)

  scales-at : is_mark mark ≡ true → is_digit mark ≡ false → eqb mark 46 ≡ false → Scales (mark ∷ sign ++ digits) (is_negative sign s) (numerals digits)
  unfolding fraction_of behind_fraction exponent_minus exponent_digits
  scales-at m n p = record {
    passes = exponent-passes m;
    stops = stops_at mark (sign ++ digits) n;
    no_fraction = ap (λ (v : Bool). cond v (digits_of (sign ++ digits)) []) p;
    stays = ap (λ (v : Bool). cond v (behind_digits (sign ++ digits)) (mark ∷ sign ++ digits)) p;
    sign = sign-says sign digits s bare;
    says = ap digits_of behind-mark ∙ alone-digits digits d;
  }

  scales-by : (mark ≡ 101) ⊎ (mark ≡ 69) → Scales (mark ∷ sign ++ digits) (is_negative sign s) (numerals digits)
  unfolding is_mark is_digit
  scales-by (inl e) = scales-at (ap is_mark e) (ap is_digit e) (ap (λ (x : ℕ). eqb x 46) e)
  scales-by (inr e) = scales-at (ap is_mark e) (ap is_digit e) (ap (λ (x : ℕ). eqb x 46) e)

scales-nil : Scales [] false []
unfolding is_exponent fraction_of behind_fraction exponent_minus exponent_digits
scales-nil = record { passes = refl; stops = stops-nil; no_fraction = refl; stays = refl; sign = refl; says = refl }

scales : (l : List ℕ) (e : Exponential l) → Scales l (down_said l e) (exponent_said l e)
scales l (unscaled e) = subst (λ (x : List ℕ). Scales x false []) (sym e) scales-nil
scales l (scaled mark sign digits m s d low high e) =
    subst (λ (x : List ℕ). Scales x (is_negative sign s) (numerals digits)) (sym e) (scales-by mark sign digits s d low high m)

-- what stands behind the sign, as the reader sees it: digits w, digits f behind the point, and the rest e
record Tested (body w f e : List ℕ) : Type 0 where
  bare : Bare body
  whole : digits_of body ≡ w
  fraction : fraction_of (behind_digits body) ≡ f
  rest : behind_fraction (behind_digits body) ≡ e
  some : 1 ≤ length w + length f

passes : (body w f e : List ℕ) → Tested body w f e → is_exponent e ≡ true → has_form body ≡ true
passes body w f e x k =
    ap (λ (l : List ℕ). leb 1 (length l + length (fraction_of (behind_digits body))) && is_exponent (behind_fraction (behind_digits body))) x.whole
    ∙ ap (λ (l : List ℕ). leb 1 (length w + length l) && is_exponent (behind_fraction (behind_digits body))) x.fraction
    ∙ ap (λ (v : Bool). v && is_exponent (behind_fraction (behind_digits body))) (le-leb 1 (length w + length f) x.some)
    ∙ ap is_exponent x.rest ∙ k

point-stops : (l : List ℕ) → Stops (46 ∷ l)
unfolding is_digit
point-stops l = stops_at 46 l refl

point-digits : (l : List ℕ) → fraction_of (46 ∷ l) ≡ digits_of l
unfolding fraction_of
point-digits l = refl

point-behind : (l : List ℕ) → behind_fraction (46 ∷ l) ≡ behind_digits l
unfolding behind_fraction
point-behind l = refl

pointed-bare : (w l : List ℕ) → Digits w → Bare (w ++ 46 ∷ l)
pointed-bare [] l d = bare-at 46 l (λ e. omega arith) (λ e. omega arith)
pointed-bare (b ∷ w) l d = bare-digits (b ∷ w) (46 ∷ l) d (omega arith)

counted : (w : List ℕ) → length (numerals w) ≡ length w
counted w = length-map w (λ (b : ℕ). b - 48)

module _ (e : List ℕ) (down : Bool) (x : List ℕ) (s : Scales e down x) where
  whole-tested : (w : List ℕ) → Digits w → 1 ≤ length w → Tested (w ++ e) (numerals w) [] e
  whole-tested w d h =
      let b : behind_digits (w ++ e) ≡ e = run-behind w e d s.stops in
      record {
        bare = bare-digits w e d h;
        whole = run-digits w e d s.stops;
        fraction = ap fraction_of b ∙ s.no_fraction;
        rest = ap behind_fraction b ∙ s.stays;
        some = omega (arith, counted w);
      }

  pointed-tested : (w f : List ℕ) → Digits w → Digits f → 1 ≤ length w + length f → Tested (w ++ 46 ∷ (f ++ e)) (numerals w) (numerals f) e
  pointed-tested w f d g h =
      let b : behind_digits (w ++ 46 ∷ (f ++ e)) ≡ 46 ∷ (f ++ e) = run-behind w (46 ∷ (f ++ e)) d (point-stops (f ++ e)) in
      record {
        bare = pointed-bare w (f ++ e) d;
        whole = run-digits w (46 ∷ (f ++ e)) d (point-stops (f ++ e));
        fraction = ap fraction_of b ∙ point-digits (f ++ e) ∙ run-digits f e g s.stops;
        rest = ap behind_fraction b ∙ point-behind (f ++ e) ∙ run-behind f e g s.stops;
        some = omega (arith, counted w, counted f);
      }

  mantissa-tested : (l : List ℕ) (m : Mantissa l) → Tested (l ++ e) (whole_said l m) (fraction_said l m) e
  mantissa-tested l (whole d h) = whole-tested l d h
  mantissa-tested l (pointed w f d g h q) =
      subst (λ (z : List ℕ). Tested z (numerals w) (numerals f) e) (sym (ap (λ (z : List ℕ). z ++ e) q ∙ append_assoc w (46 ∷ f) e)) (pointed-tested w f d g h)

-- ── Both ways ──

-- the form that `form_of` gives where the test passes
abbrev parts_of : List ℕ → Form
parts_of t = record {
  negative = is_minus t;
  whole = digits_of (behind_sign t);
  fraction = fraction_of (behind_digits (behind_sign t));
  down = exponent_minus (behind_fraction (behind_digits (behind_sign t)));
  exponent = exponent_digits (behind_fraction (behind_digits (behind_sign t)));
}

form-is : (t : List ℕ) → form_of t ≡ cond (has_form (behind_sign t)) (some (parts_of t)) none
unfolding form_of
form-is t = refl

-- a token that has a form is of the right form
pub form-right : (t : List ℕ) (f : Form) → form_of t ≡ some f → RightForm t
form-right t f e = go (has_form (behind_sign t)) refl (sym (form-is t) ∙ e)
  where
    go : (v : Bool) → has_form (behind_sign t) ≡ v → cond v (some (parts_of t)) none ≡ some f → RightForm t
    go true h z = by-test t h
    go false h z = absurd (none-ne-some f z)

-- the reader finds what the pieces say
module _ (t : List ℕ) (r : RightForm t) where
  abbrev rest_of : List ℕ
  rest_of = r.mantissa ++ r.exponent

  ending : Scales r.exponent (down_said r.exponent r.ends) (exponent_said r.exponent r.ends)
  ending = scales r.exponent r.ends

  standing : Tested rest_of (whole_said r.mantissa r.digits) (fraction_said r.mantissa r.digits) r.exponent
  standing = mantissa-tested r.exponent (down_said r.exponent r.ends) (exponent_said r.exponent r.ends) ending r.mantissa r.digits

  behind-sign : behind_sign t ≡ rest_of
  behind-sign = ap behind_sign r.is ∙ sign-behind r.sign rest_of r.signed standing.bare

  to-test : has_form (behind_sign t) ≡ true
  to-test = ap has_form behind-sign ∙ passes rest_of (whole_said r.mantissa r.digits) (fraction_said r.mantissa r.digits) r.exponent standing ending.passes

  -- what the reader takes for the exponent
  behind-all : behind_fraction (behind_digits (behind_sign t)) ≡ r.exponent
  behind-all = ap (λ (l : List ℕ). behind_fraction (behind_digits l)) behind-sign ∙ standing.rest

  parts_said : parts_of t ≡ form_said t r
  parts_said =
      let a : is_minus t ≡ is_negative r.sign r.signed = ap is_minus r.is ∙ sign-says r.sign rest_of r.signed standing.bare in
      let b : digits_of (behind_sign t) ≡ whole_said r.mantissa r.digits = ap digits_of behind-sign ∙ standing.whole in
      let c : fraction_of (behind_digits (behind_sign t)) ≡ fraction_said r.mantissa r.digits = ap (λ (l : List ℕ). fraction_of (behind_digits l)) behind-sign ∙ standing.fraction in
      let d : exponent_minus (behind_fraction (behind_digits (behind_sign t))) ≡ down_said r.exponent r.ends = ap exponent_minus behind-all ∙ ending.sign in
      let e : exponent_digits (behind_fraction (behind_digits (behind_sign t))) ≡ exponent_said r.exponent r.ends = ap exponent_digits behind-all ∙ ending.says in
      λ i. record { negative = a i; whole = b i; fraction = c i; down = d i; exponent = e i }

  pub right-form : form_of t ≡ some (form_said t r)
  right-form = form-is t ∙ ap (λ (v : Bool). cond v (some (parts_of t)) none) to-test ∙ ap some parts_said
