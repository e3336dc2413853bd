-- The parts of a token that have no loop of their own: the digits behind a point, the exponent, and the last step, each by the ways of the
-- code. Assumes nothing.
use Prim.Native.Nat.{ℕ, ◌+◌, ◌^◌, ◌≤◌, ◌<◌}
use mathlib.Core.Path.{◌≡◌, refl, sym, ap, ◌∙◌}
use mathlib.Core.Bool.{Bool, true, false, cond, ◌||◌}
use mathlib.Core.Logic.{◌⊎◌, inl, inr}
use mathlib.Core.List.{List, [], ◌∷◌}
use native.Mathlib.Omega.{arith}
use borrow.Author.Tests.{leb-true, leb-false, eq-eqb, ne_eqb}
use lib.Dec.{leb}
use lib.ListN.{length, drop, get_or}
use Rattle.std.specs.Prelude.{Option, Some, None}
use Rattle.scanning.specs.Steps.{here, past}
use Rattle.decimal_read.specs.declared.Held.{Held}
use Rattle.decimal_read.specs.declared.Run.{Run}
use Rattle.decimal_read.specs.declared.Exponent.{Exponent}
use Rattle.decimal_read.specs.declared.Exponent.TheVariants.{Up}
use Rattle.decimal_read.specs.Number.{is_mark, is_minus, behind_sign, digits_of, behind_digits, fraction_of, behind_fraction, append}
use Rattle.decimal_read.specs.Steps.{no_digits, held_all, RunOf, FractionOf, exponent_of, exponent_at}
use Rattle.decimal_read.proofs.Laws.{behind_sign-cons, fraction_of-nil, fraction_of-cons, behind_fraction-nil, behind_fraction-cons, held_all-nil, is_empty-nil, is_empty-cons, exponent_at-nil}
use Rattle.decimal_read.proofs.Laws.{exponent_at-cons, exponent-none, exponent-long}
use Rattle.decimal_read.proofs.Read.{short-lt, short-is}

-- ── A sign ──

module _ (t : List ℕ) (at : ℕ) (l : at < length t) where
  pub sign_passed : (get_or t at 0 ≡ 45) ⊎ (get_or t at 0 ≡ 43) → drop (at + 1) t ≡ behind_sign (drop at t)
  sign_passed (inl e) = rw (here t at l, behind_sign-cons, e)
  sign_passed (inr e) = rw (here t at l, behind_sign-cons, e)

  pub sign_none : (get_or t at 0 ≡ 45 → ⊥) → (get_or t at 0 ≡ 43 → ⊥) → drop at t ≡ behind_sign (drop at t)
  sign_none m p =
      here t at l ∙ sym (ap behind_sign (here t at l) ∙ behind_sign-cons (get_or t at 0) (drop (at + 1) t)
      ∙ (λ i. cond (ne_eqb (get_or t at 0) 45 m i || ne_eqb (get_or t at 0) 43 p i) (drop (at + 1) t) (get_or t at 0 ∷ drop (at + 1) t)))

-- ── A mark ──

pub mark : (b : ℕ) → (b ≡ 101) ⊎ (b ≡ 69) → is_mark b ≡ true
unfolding is_mark
mark b (inl e) = rw e
mark b (inr e) = rw e

pub other : (b : ℕ) → (b ≡ 101 → ⊥) → (b ≡ 69 → ⊥) → is_mark b ≡ false
unfolding is_mark
other b p q = rw (ne_eqb b 101 p, ne_eqb b 69 q)

-- ── The digits behind a point ──

module _ (t : List ℕ) (w : Run) (h : w.end ≤ length t) (s : w.held.value < 10 ^ 19) (f : w.held.dropped ≤ w.end) where
  no_fraction : fraction_of (drop w.end t) ≡ [] → behind_fraction (drop w.end t) ≡ drop w.end t → FractionOf t w (record { held = w.held; count = 0; end = w.end })
  no_fraction e b = record { held = sym (ap (held_all w.held) e ∙ held_all-nil w.held); count = sym (ap length e); rest = sym b; place = omega arith; within = h; small = s; few = f }

  pub fraction_end : length t ≤ w.end → FractionOf t w (record { held = w.held; count = 0; end = w.end })
  fraction_end l = no_fraction (ap fraction_of (past t w.end l) ∙ fraction_of-nil) (ap behind_fraction (past t w.end l) ∙ behind_fraction-nil ∙ sym (past t w.end l))

  pub fraction-none : w.end < length t → (get_or t w.end 0 ≡ 46 → ⊥) → FractionOf t w (record { held = w.held; count = 0; end = w.end })
  fraction-none l n =
      no_fraction (rw (here t w.end l, fraction_of-cons, ne_eqb (get_or t w.end 0) 46 n))
      (ap behind_fraction (here t w.end l) ∙ behind_fraction-cons (get_or t w.end 0) (drop (w.end + 1) t)
      ∙ ap (λ (x : Bool). cond x (behind_digits (drop (w.end + 1) t)) (get_or t w.end 0 ∷ drop (w.end + 1) t)) (ne_eqb (get_or t w.end 0) 46 n) ∙ sym (here t w.end l))

  pub fraction-some : w.end < length t → get_or t w.end 0 ≡ 46 → (r : Run) → RunOf t (w.end + 1) w.held r → FractionOf t w r
  fraction-some l e r q =
      let a : fraction_of (drop w.end t) ≡ digits_of (drop (w.end + 1) t) = rw (here t w.end l, fraction_of-cons, eq-eqb (get_or t w.end 0) 46 e) in
      let b : behind_fraction (drop w.end t) ≡ behind_digits (drop (w.end + 1) t) = rw (here t w.end l, behind_fraction-cons, eq-eqb (get_or t w.end 0) 46 e) in
      record {
        held = q.held ∙ ap (held_all w.held) (sym a);
        count = q.count ∙ ap length (sym a);
        rest = q.rest ∙ sym b;
        place = omega (arith, q.place);
        within = q.within;
        small = q.small;
        few = q.few;
      }

-- ── The exponent ──

pub short-run : (t : List ℕ) (at : ℕ) (r : Run) → RunOf t at no_digits r → 1 ≤ r.count → r.count ≤ 2 → r.held.value < 100
short-run t at r q a b =
    let h : length (digits_of (drop at t)) ≤ 2 = omega (arith, q.count) in
    omega (arith, ap (λ (x : Held). x.value) q.held ∙ short-is (drop at t) h, short-lt (drop at t) h)

-- only the value of one or two digits counts
exponent_same : (m : Bool) (k v n : ℕ) → (k ≤ 2 → v ≡ n) → exponent_of m k v ≡ exponent_of m k n
exponent_same m k v n f = go (leb k 2) refl (leb 1 k) refl
  where
    go : (x : Bool) → leb k 2 ≡ x → (y : Bool) → leb 1 k ≡ y → exponent_of m k v ≡ exponent_of m k n
    go true e y d = ap (exponent_of m k) (f (leb-true k 2 e))
    go false e true d = sym (exponent-long m k v (leb-true 1 k d) (leb-false k 2 e)) ∙ exponent-long m k n (leb-true 1 k d) (leb-false k 2 e)
    go false e false d = sym (exponent-none m k v (leb-false 1 k d)) ∙ exponent-none m k n (leb-false 1 k d)

module _ (t : List ℕ) (at : ℕ) where
  pub exponent-end : length t ≤ at → Some (Up 0) ≡ exponent_at (drop at t)
  exponent-end l = sym (ap exponent_at (past t at l) ∙ exponent_at-nil)

  module _ (l : at < length t) where
    pub no-mark : is_mark (get_or t at 0) ≡ false → None ≡ exponent_at (drop at t)
    no-mark q = rw (here t at l, exponent_at-cons, q)

    module _ (q : is_mark (get_or t at 0) ≡ true) (from : ℕ) (r : Run) (d : drop from t ≡ behind_sign (drop (at + 1) t)) (o : RunOf t from no_digits r) where
      rest : behind_digits (behind_sign (drop (at + 1) t)) ≡ drop r.end t
      rest = ap behind_digits (sym d) ∙ sym o.rest

      pub exponent-more : r.end < length t → None ≡ exponent_at (drop at t)
      exponent-more h = rw (here t at l, exponent_at-cons, q, rest, here t r.end h, is_empty-cons)

      pub exponent-whole : length t ≤ r.end → (m : Bool) → m ≡ is_minus (drop (at + 1) t) → (x : Option Exponent) → x ≡ exponent_of m r.count r.held.value → x ≡ exponent_at (drop at t)
      exponent-whole h m s x y =
          let g : List ℕ = digits_of (behind_sign (drop (at + 1) t)) in
          let c : r.count ≡ length g = o.count ∙ ap (λ (z : List ℕ). length (digits_of z)) d in
          let v : r.count ≤ 2 → r.held.value ≡ append 0 g =
          λ k. ap (λ (z : Held). z.value) o.held ∙ short-is (drop from t) (omega (arith, o.count)) ∙ ap (λ (z : List ℕ). append 0 (digits_of z)) d in
          y ∙ exponent_same m r.count r.held.value (append 0 g) v ∙ (λ i. exponent_of (s i) (c i) (append 0 g))
          ∙ sym (rw (here t at l, exponent_at-cons, q, rest, past t r.end h, is_empty-nil))
