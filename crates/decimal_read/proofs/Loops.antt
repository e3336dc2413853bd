-- The loops of the reader: what holds at each turn of the loop over digits, and of the loop that takes zeros off. Assumes nothing.
use Prim.Native.Nat.{ℕ, ◌+◌, ◌-◌, ◌*◌, ◌^◌, ◌/◌, ◌%◌, ◌≤◌, ◌<◌}
use mathlib.Core.Path.{◌≡◌, refl, sym, ap, ◌∙◌, subst}
use mathlib.Core.Bool.{Bool, true, false, cond}
use mathlib.Core.List.{List, [], ◌∷◌}
use native.Mathlib.Nat.{mul-one}
use native.Mathlib.Numerals.{add-one}
use native.Mathlib.Omega.{arith}
use lib.ListN.{length, take, drop, get_or}
use Rattle.std.specs.Char.{is_ascii_digit}
use Rattle.std.proofs.lemmas.List.{length-drop, take_all}
use Rattle.scanning.specs.Steps.{here, past}
use Rattle.decimal_read.specs.declared.Held.{Held}
use Rattle.decimal_read.specs.Number.{is_digit, digits_of, behind_digits}
use Rattle.decimal_read.specs.Steps.{held_with, held_all, RunOf, zeros_of, coefficient_of}
use Rattle.decimal_read.proofs.Laws.{digits_of-nil, digits_of-cons, behind_digits-nil, behind_digits-cons, held_all-nil, held_all-cons}
use Rattle.decimal_read.proofs.Zeros.{ten-more, one-pair, zeros-le}
use Rattle.decimal_read.proofs.Settled.{own}

-- ── The loop over digits: the digits from i on, behind what h holds, are what is left of the run at `at` behind `start` ──

pub record Going (t : List ℕ) (at : ℕ) (start h : Held) (i : ℕ) : Type 0 where
  pub within : i ≤ length t
  pub begun : at ≤ i
  pub small : h.value < 10 ^ 19
  pub few : h.dropped ≤ i
  pub held : held_all start (digits_of (drop at t)) ≡ held_all h (digits_of (drop i t))
  pub count : length (digits_of (drop at t)) + at ≡ length (digits_of (drop i t)) + i
  pub rest : behind_digits (drop at t) ≡ behind_digits (drop i t)

-- a digit at i, and none there
module _ (t : List ℕ) (i : ℕ) (l : i < length t) (b : Bool) (e : b ≡ is_digit (get_or t i 0)) where
  a-digit : b ≡ true → digits_of (drop i t) ≡ (get_or t i 0 - 48) ∷ digits_of (drop (i + 1) t)
  a-digit q = rw (here t i l, digits_of-cons, sym e ∙ q)

  behind-digit : b ≡ true → behind_digits (drop i t) ≡ behind_digits (drop (i + 1) t)
  behind-digit q = ap behind_digits (here t i l) ∙ behind_digits-cons (get_or t i 0) (drop (i + 1) t) ∙ ap (λ (x : Bool). cond x (behind_digits (drop (i + 1) t)) (get_or t i 0 ∷ drop (i + 1) t)) (sym e ∙ q)

  no_digit : b ≡ false → digits_of (drop i t) ≡ []
  no_digit q = rw (here t i l, digits_of-cons, sym e ∙ q)

  behind-none : b ≡ false → behind_digits (drop i t) ≡ drop i t
  behind-none q =
      ap behind_digits (here t i l) ∙ behind_digits-cons (get_or t i 0) (drop (i + 1) t) ∙ ap (λ (x : Bool). cond x (behind_digits (drop (i + 1) t)) (get_or t i 0 ∷ drop (i + 1) t)) (sym e ∙ q)
      ∙ sym (here t i l)

module _ (t : List ℕ) (at : ℕ) (start h : Held) (i : ℕ) (g : Going t at start h i) where
  pub going_more : (b : Bool) → i < length t → b ≡ is_digit (get_or t i 0) → b ≡ true → (n : Held) → n ≡ held_with h (get_or t i 0 - 48) → n.value < 10 ^ 19 → n.dropped ≤ h.dropped + 1
      → Going t at start n (i + 1)
  going_more b l e q n m s f =
      let d : digits_of (drop i t) ≡ (get_or t i 0 - 48) ∷ digits_of (drop (i + 1) t) = a-digit t i l b e q in
      record {
        within = omega arith;
        begun = omega arith;
        small = s;
        few = omega arith;
        held = g.held ∙ ap (held_all h) d ∙ held_all-cons h (get_or t i 0 - 48) (digits_of (drop (i + 1) t)) ∙ ap (λ (x : Held). held_all x (digits_of (drop (i + 1) t))) (sym m);
        count = omega (arith, g.count, ap length d);
        rest = g.rest ∙ behind-digit t i l b e q;
      }

  ended : digits_of (drop i t) ≡ [] → behind_digits (drop i t) ≡ drop i t → RunOf t at start (record { held = h; count = i - at; end = i })
  ended d r = record {
    held = sym (g.held ∙ ap (held_all h) d ∙ held_all-nil h);
    count = omega (arith, g.count, ap length d);
    rest = sym (g.rest ∙ r);
    place = omega arith;
    within = g.within;
    small = g.small;
    few = g.few;
  }

  pub going-stop : (b : Bool) → i < length t → b ≡ is_digit (get_or t i 0) → b ≡ false → RunOf t at start (record { held = h; count = i - at; end = i })
  going-stop b l e q = ended (no_digit t i l b e q) (behind-none t i l b e q)

  pub going_end : length t ≤ i → RunOf t at start (record { held = h; count = i - at; end = i })
  going_end l = ended (ap digits_of (past t i l) ∙ digits_of-nil) (ap behind_digits (past t i l) ∙ behind_digits-nil ∙ sym (past t i l))

-- what is left to read is the rest of t
pub record Left (t : List ℕ) (at : ℕ) (start h : Held) (rest : List ℕ) : Type 0 where
  pub within : length rest ≤ length t
  pub is : rest ≡ drop (length t - length rest) t
  pub going : Going t at start h (length t - length rest)

pub left_all : (t : List ℕ) (at : ℕ) (start : Held) → at ≤ length t → start.value < 10 ^ 19 → start.dropped ≤ at → Left t at start start (take (length t - at) (drop at t))
left_all t at start h s f =
    rw (take_all (length t - at) (drop at t) (omega (arith, length-drop at t))) (record {
      within = omega (arith, length-drop at t);
      is = ap (λ (k : ℕ). drop k t) e;
      going = subst (λ (k : ℕ). Going t at start start k) e g;
    })
  where
    e : at ≡ length t - length (drop at t)
    e = omega (arith, length-drop at t)

    g : Going t at start start at
    g = record { within = h; begun = omega arith; small = s; few = f; held = refl; count = refl; rest = refl }

module _ (t : List ℕ) (at : ℕ) (start h : Held) (rest : List ℕ) (s : Left t at start h rest) where
  pub left_end : length rest ≡ 0 → RunOf t at start (record { held = h; count = length t - length rest - at; end = length t - length rest })
  left_end e = going_end t at start h (length t - length rest) s.going (omega arith)

  module _ (b : ℕ) (more : List ℕ) (e : rest ≡ b ∷ more) where
    inside : length t - length rest < length t
    inside = omega (arith, ap length e, s.within)

    both : b ∷ more ≡ get_or t (length t - length rest) 0 ∷ drop (length t - length rest + 1) t
    both = sym e ∙ s.is ∙ here t (length t - length rest) inside

    byte : b ≡ get_or t (length t - length rest) 0
    byte = ap (λ (l : List ℕ). get_or l 0 0) both

    behind : more ≡ drop (length t - length rest + 1) t
    behind = ap (λ (l : List ℕ). drop 1 l) both

    digit-is : (d : Bool) → d ≡ is_ascii_digit b → d ≡ is_digit (get_or t (length t - length rest) 0)
    unfolding is_digit
    digit-is d q = q ∙ ap is_ascii_digit byte

    pub left_stop : is_ascii_digit b ≡ false → RunOf t at start (record { held = h; count = length t - length rest - at; end = length t - length rest })
    left_stop q = going-stop t at start h (length t - length rest) s.going (is_ascii_digit b) inside (digit-is (is_ascii_digit b) refl) q

    pub left_more : is_ascii_digit b ≡ true → (n : Held) → n ≡ held_with h (b - 48) → n.value < 10 ^ 19 → n.dropped ≤ h.dropped + 1 → Left t at start n more
    left_more q n m v f =
        let k : length t - length rest + 1 ≡ length t - length more = omega (arith, ap length e, s.within) in
        let g : Going t at start n (length t - length rest + 1) =
        going_more t at start h (length t - length rest) s.going (is_ascii_digit b) inside (digit-is (is_ascii_digit b) refl) q n (m ∙ ap (λ (x : ℕ). held_with h (x - 48)) byte) v f in
        record { within = omega (arith, ap length e, s.within); is = behind ∙ ap (λ (i : ℕ). drop i t) k; going = subst (λ (i : ℕ). Going t at start n i) k g }

-- ── The loop that takes zeros off: what is left, times 10 to the zeros taken, is the number ──

pub record Stripping (value c z : ℕ) : Type 0 where
  pub same : value ≡ c * 10 ^ z
  pub above : 0 < c
  pub few : z + c ≤ value

pub strip-start : (v : ℕ) → 0 < v → Stripping v v 0
strip-start v h = record { same = sym (mul-one v); above = h; few = omega arith }

pub strip-more : (v c z : ℕ) → Stripping v c z → c % 10 ≡ 0 → Stripping v (c / 10) (z + 1)
strip-more v c z s e =
    record {
      same = s.same ∙ ap (λ (m : ℕ). m * 10 ^ z) tens
          ∙ omega (arith, ten-more (c / 10) z, ap (λ (m : ℕ). c / 10 * 10 ^ m) (add-one z));
      above = omega (arith, s.above);
      few = omega (arith, s.above, s.few);
    }
  where
    tens : c ≡ c / 10 * 10
    tens = omega arith

pub strip-done : (v c z : ℕ) → 0 < v → v < 10 ^ 19 → Stripping v c z → (c % 10 ≡ 0 → ⊥) → (c ≡ coefficient_of v) × (z ≡ zeros_of v) × (z ≤ 20)
unfolding zeros_of
strip-done v c z p h s e = go (one-pair (record { same = s.same; ends = e }) (own v p h))
  where
    go : (c ≡ coefficient_of v) × (z ≡ zeros_of v) → (c ≡ coefficient_of v) × (z ≡ zeros_of v) × (z ≤ 20)
    go q = (q.0, q.1, omega (arith, q.1, zeros-le 20 v))
