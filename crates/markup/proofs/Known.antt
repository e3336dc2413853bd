-- Answers under a fault that is known already: as the code goes through them, and what grammar they are of. Assumes nothing.
use mathlib.Core.Path.{◌≡◌, refl, sym, ap, ◌∙◌}
use mathlib.Core.Bool.{Bool, true, false, cond}
use mathlib.Core.List.{List}
use Prim.Native.Nat.{ℕ, zero, suc, ◌-◌, ◌≤◌, min}
use native.Mathlib.Omega.{arith}
use lib.ListN.{length, drop, length-drop}
use lib.Dec.{eqb}
use borrow.Author.Tests.{eq-eqb, ne_eqb, eqb-true, eqb-false}
use Rattle.grammar.specs.Parse.{Out, done, fault, cut, Parser, bind_p, judge_p, settle_out, settle_p, same_place}
use Rattle.xml.specs.Code.{Reads, Failed}
use Rattle.xml.specs.CodeLaws.{reads-failed, reads-ill, reads-unjudged}
use Rattle.xml.specs.Code.{Scan}
use Rattle.std.specs.Prelude.{Ok, Err}
use Rattle.xml.specs.declared.Stop.TheVariants.{Fault, Cut}
use Rattle.markup.specs.Settled.{settled_scan, refused_scan}

-- ---- the code's cases

pub settled-none : (v : ℕ) (r : Scan) (at : ℕ) → v ≡ 0 → r ≡ settled_scan v r at
settled-none v r at q = rw q

module _ (at : ℕ) where
  pub settled_at : (v e : ℕ) → (v ≡ 0 → ⊥) → Err (Fault v at) ≡ settled_scan v (Ok e) at
  settled_at zero e q = absurd (q refl)
  settled_at (suc v) e q = refl

  pub settled-apart : (v k p : ℕ) → (v ≡ 0 → ⊥) → (p ≡ at → ⊥) → Err (Fault v at) ≡ settled_scan v (Err (Fault k p)) at
  settled-apart zero k p q h = absurd (q refl)
  settled-apart (suc v) k p q h = rw (ne_eqb p at h)

  pub settled-here : (v k p : ℕ) → (v ≡ 0 → ⊥) → p ≡ at → Err (Fault (min v k) at) ≡ settled_scan v (Err (Fault k p)) at
  settled-here zero k p q h = absurd (q refl)
  settled-here (suc v) k p q h = rw (eq-eqb p at h)

  pub settled-cut : (v : ℕ) → (Err Cut) ≡ settled_scan v (Err Cut) at
  settled-cut zero = refl
  settled-cut (suc v) = refl

-- ---- the grammar's

same_place_lem : (s : List ℕ) (at p : ℕ) → at ≤ p → p ≤ length s → (t : Bool) → eqb p at ≡ t → same_place (drop p s) (drop at s) ≡ t
same_place_lem s at p h k true q =
    let z : p ≡ at = eqb-true p at q in
    eq-eqb (length (drop p s)) (length (drop at s)) (ap (λ (n : ℕ). length (drop n s)) z)
same_place_lem s at p h k false q =
    ne_eqb (length (drop p s)) (length (drop at s)) (λ e. eqb-false p at q (let z : length s - p ≡ length s - at = sym (length-drop p s) ∙ e ∙ length-drop at s in omega arith))

module _ {A : Type 0} (p : Parser A) (value : ℕ → A) (s : List ℕ) (at n : ℕ) where
  settle-none : (o : Out A) (u : List ℕ) → o ≡ settle_out 0 o u
  settle-none (done a r) u = refl
  settle-none (fault k r) u = refl
  settle-none cut u = refl

  pub reads-settle : (v : ℕ) (r : Scan) → Reads n p value s at r → Reads n (settle_p v p) value s at (settled_scan v r at)
  reads-settle zero r w = record { out = w.out ∙ settle-none (p (drop at s)) (drop at s); inside = w.inside }
  reads-settle (suc v) (Ok e) w = record { out = ap (λ (o : Out A). settle_out (suc v) o (drop at s)) w.out; inside = (omega arith, omega (arith, w.inside)) }
  reads-settle (suc v) (Err (Fault k q)) w = by (eqb q at) refl
    where
      by : (t : Bool) → eqb q at ≡ t → Reads n (settle_p (suc v) p) value s at (cond t (Err (Fault (min (suc v) k) at)) (Err (Fault (suc v) at)))
      by true e = record {
        out = ap (λ (t : Bool). cond t (fault (min (suc v) k) (drop at s)) (fault (suc v) (drop at s))) (sym (same_place_lem s at q w.inside.0 w.inside.1 true e))
            ∙ ap (λ (o : Out A). settle_out (suc v) o (drop at s)) w.out;
        inside = (omega arith, omega (arith, w.inside));
      }
      by false e = record {
        out = ap (λ (t : Bool). cond t (fault (min (suc v) k) (drop at s)) (fault (suc v) (drop at s))) (sym (same_place_lem s at q w.inside.0 w.inside.1 false e))
            ∙ ap (λ (o : Out A). settle_out (suc v) o (drop at s)) w.out;
        inside = (omega arith, omega (arith, w.inside));
      }
  reads-settle (suc v) (Err Cut) w = record { out = ap (λ (o : Out A). settle_out (suc v) o (drop at s)) w.out; inside = tt }

  settled-failed : (v : ℕ) → (v ≡ 0 → ⊥) → (r : Scan) → Failed (settled_scan v r at)
  settled-failed zero z r = absurd (z refl)
  settled-failed (suc v) z (Ok e) = tt
  settled-failed (suc v) z (Err (Fault k q)) = by (eqb q at)
    where
      by : (t : Bool) → Failed (cond t (Err (Fault (min (suc v) k) at)) (Err (Fault (suc v) at)))
      by true = tt
      by false = tt
  settled-failed (suc v) z (Err Cut) = tt

  -- what a fault is known of, whatever was to come after it
  pub reads-settled : {B : Type 0} (f : A → Parser B) (value₂ : ℕ → B) (m v : ℕ) (r : Scan) → (v ≡ 0 → ⊥) → Reads n p value s at r
      → Reads m (bind_p (settle_p v p) f) value₂ s at (settled_scan v r at)
  reads-settled f value₂ m v r z w =
      reads-failed (settle_p v p) value f value₂ s at n m (settled_scan v r at) (settled-failed v z r) (reads-settle v r w)

  -- what is a fault once it is read, whatever was to come after it
  pub reads-refused : {B : Type 0} (f : A → Parser B) (value₂ : ℕ → B) (m k : ℕ) (r : Scan) → (k ≡ 0 → ⊥) → Reads n p value s at r
      → Reads m (bind_p (judge_p (λ a. k) p) f) value₂ s at (refused_scan r k at)
  reads-refused f value₂ m k (Ok e) z w =
      reads-failed (judge_p (λ a. k) p) value f value₂ s at n m (Err (Fault k at)) tt (reads-ill p value s at (λ a. k) n n e k refl z w)
  reads-refused f value₂ m k (Err (Fault j q)) z w =
      reads-failed (judge_p (λ a. k) p) value f value₂ s at n m (Err (Fault j q)) tt (reads-unjudged p value s at (λ a. k) n n (Err (Fault j q)) tt w)
  reads-refused f value₂ m k (Err Cut) z w =
      reads-failed (judge_p (λ a. k) p) value f value₂ s at n m (Err Cut) tt (reads-unjudged p value s at (λ a. k) n n (Err Cut) tt w)
