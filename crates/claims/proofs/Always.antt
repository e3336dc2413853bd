-- A fact of each value that a grammar can give, form by form. Assumes nothing.
use mathlib.Core.Path.{◌≡◌, refl, sym, ap, ◌∙◌, subst}
use mathlib.Core.Bool.{Bool, true, false, cond}
use mathlib.Core.List.{List, [], ◌∷◌}
use Prim.Native.Nat.{ℕ, zero, suc, ◌≤◌, ◌<◌, min}
use native.Mathlib.Omega.{arith}
use lib.Dec.{ltb}
use lib.ListN.{length}
use borrow.Author.Tests.{ltb-true}
use Rattle.grammar.specs.Parse.{Out, done, fault, cut, Turn, again, last, before, same_place, judged_to, judge_out, settle_out, blame_out, kept_out, turn_out, loop_p}
use Rattle.grammar.specs.Laws.{nope, loop-step}
use Rattle.grammar.specs.Grammar.{G, ret, bad, look, look_two, strict, judge, settle, blame, kept, seq, loop}
use Rattle.grammar.specs.Splice.{bind_inv, strict-inv}

-- each value that p gives has the fact Q
pub record Holds {A : Type 0} (Q : A → Type 0) (p : G A) : Type 0 where
  pub value : (s : List ℕ) (a : A) (r : List ℕ) → p.run s ≡ done a r → Q a

module _ {A : Type 0} {Q : A → Type 0} where
  -- a fact of every value
  pub holds-all : (p : G A) → ((a : A) → Q a) → Holds Q p
  holds-all p h = record { value = λ s a r e. h a }

  pub holds-ret : {a : A} → Q a → Holds Q (ret a)
  holds-ret q = record { value = λ s b r e. subst Q (cc) q }

  pub holds-bad : (k : ℕ) → Holds Q (bad k)
  holds-bad k = record { value = λ s b r e. nope cc }

  pub holds-cond : {p q : G A} (v : Bool) → (v ≡ true → Holds Q p) → (v ≡ false → Holds Q q) → Holds Q (cond v p q)
  holds-cond true h g = h refl
  holds-cond false h g = g refl

  pub holds-look : {f : ℕ → G A} → ((b : ℕ) → Holds Q (f b)) → Holds Q (look f)
  holds-look {f} h = record { value = go }
    where
      go : (s : List ℕ) (a : A) (r : List ℕ) → (look f).run s ≡ done a r → Q a
      go [] a r e = nope cc
      go (b ∷ s) a r e = (h b).value (b ∷ s) a r e

  pub holds-strict : {p : G A} → Holds Q p → Holds Q (strict p)
  holds-strict {p} h = record { value = λ s a r e. h.value s a r (strict-inv p.run s a r e) }

  pub holds-look_two : {f : ℕ → ℕ → G A} → ((b c : ℕ) → Holds Q (f b c)) → Holds Q (look_two f)
  holds-look_two {f} h = record { value = go }
    where
      go : (s : List ℕ) (a : A) (r : List ℕ) → (look_two f).run s ≡ done a r → Q a
      go [] a r e = nope cc
      go (b ∷ []) a r e = nope cc
      go (b ∷ c ∷ s) a r e = (holds-strict (h b c)).value (b ∷ c ∷ s) a r e

  -- what is judged has no fault
  pub holds-judge : {p : G A} (P : A → Type 0) (j : A → ℕ) → Holds P p → ((a : A) → P a → j a ≡ 0 → Q a) → Holds Q (judge j p)
  holds-judge {p} P j h f = record { value = λ s a r e. go s a r (p.run s) refl e }
    where
      by_number : (s : List ℕ) (a : A) (r : List ℕ) (b : A) (u : List ℕ) (n : ℕ) → P b → j b ≡ n → judged_to n b u s ≡ done a r → Q a
      by_number s a r b u zero y q z = subst Q (cc) (f b y q)
      by_number s a r b u (suc n) y q z = nope cc

      go : (s : List ℕ) (a : A) (r : List ℕ) (o : Out A) → p.run s ≡ o → judge_out j o s ≡ done a r → Q a
      go s a r (done b u) q z = by_number s a r b u (j b) (h.value s b u q) refl z
      go s a r (fault k u) q z = nope cc
      go s a r cut q z = nope cc

  -- what is settled knew no fault
  pub holds-settle : {p : G A} (v : ℕ) → (v ≡ 0 → Holds Q p) → Holds Q (settle v p)
  holds-settle {p} zero h = record { value = λ s a r e. go s a r (p.run s) refl e }
    where
      go : (s : List ℕ) (a : A) (r : List ℕ) (o : Out A) → p.run s ≡ o → settle_out zero o s ≡ done a r → Q a
      go s a r (done b u) q z = (h refl).value s a r (q ∙ z)
      go s a r (fault k u) q z = nope cc
      go s a r cut q z = nope cc
  holds-settle {p} (suc v) h = record { value = λ s a r e. go s a r (p.run s) e }
    where
      by_place : (s : List ℕ) (a : A) (r : List ℕ) (b : Bool) (i j : ℕ) → cond b (fault i s) (fault j s) ≡ done a r → Q a
      by_place s a r true i j z = nope cc
      by_place s a r false i j z = nope cc

      go : (s : List ℕ) (a : A) (r : List ℕ) (o : Out A) → settle_out (suc v) o s ≡ done a r → Q a
      go s a r (done b u) z = nope cc
      go s a r (fault k u) z = by_place s a r (same_place u s) (min (suc v) k) (suc v) z
      go s a r cut z = nope cc

  pub holds-blame : {p : G A} → Holds Q p → Holds Q (blame p)
  holds-blame {p} h = record { value = λ s a r e. go s a r (p.run s) refl e }
    where
      go : (s : List ℕ) (a : A) (r : List ℕ) (o : Out A) → p.run s ≡ o → blame_out o s ≡ done a r → Q a
      go s a r (done b u) q z = h.value s a r (q ∙ z)
      go s a r (fault k u) q z = nope cc
      go s a r cut q z = nope cc

  pub holds_kept : {p : G A} → Holds Q p → Holds (λ x. Q x.0) (kept p)
  holds_kept {p} h = record { value = λ s x r e. go s x r (p.run s) refl e }
    where
      go : (s : List ℕ) (x : A × List ℕ) (r : List ℕ) (o : Out A) → p.run s ≡ o → kept_out o s ≡ done x r → Q x.0
      go s x r (done b u) q z =
          let y : ◌≡◌ {A = A × List ℕ} (b, before s u) x = cc in
          subst Q (ap (λ (c : A × List ℕ). c.0) y) (h.value s b u q)
      go s x r (fault k u) q z = nope cc
      go s x r cut q z = nope cc

module _ {A B : Type 0} {Q : B → Type 0} where
  pub holds-seq : {p : G A} {f : A → G B} (P : A → Type 0) → Holds P p → ((a : A) → P a → Holds Q (f a)) → Holds Q (seq p f)
  holds-seq {p} {f} P h g = record { value = λ s b r e. let i = bind_inv p.run (λ a. (f a).run) s b r e in (g i.0 (h.value s i.0 i.1 i.2)).value i.1 b r i.3 }

  -- after a part whose value does not matter
  pub holds_then : (p : G A) {f : A → G B} → ((a : A) → Holds Q (f a)) → Holds Q (seq p f)
  holds_then p {f} g = record { value = λ s b r e. let i = bind_inv p.run (λ a. (f a).run) s b r e in (g i.0).value i.1 b r i.3 }

-- ---- loops

module _ {S B : Type 0} where
  abbrev pub TurnHolds : (S → Type 0) → (B → Type 0) → Turn S B → Type 0
  TurnHolds I Q (again st) = I st
  TurnHolds I Q (last b) = Q b

  module _ (I : S → Type 0) (Q : B → Type 0) {f : S → G (Turn S B)} (each : (st : S) → I st → Holds (TurnHolds I Q) (f st)) where
    turn_holds : (n : ℕ) → ((st : S) → I st → (s : List ℕ) (b : B) (r : List ℕ) → length s < n → loop_p (λ v. (f v).run) st s ≡ done b r → Q b)
        → (st : S) → I st → (s : List ℕ) (b : B) (r : List ℕ) → length s ≤ n
        → (o : Out (Turn S B)) → (f st).run s ≡ o → turn_out (loop_p (λ v. (f v).run)) o s ≡ done b r → Q b
    turn_holds n ih st i s b r h (done (last a) u) q z = subst Q (cc) ((each st i).value s (last a) u q)
    turn_holds n ih st i s b r h (done (again v) u) q z = by (ltb (length u) (length s)) refl z
      where
        by : (t : Bool) → ltb (length u) (length s) ≡ t → cond t (loop_p (λ v. (f v).run) v u) cut ≡ done b r → Q b
        by true k y = let l : length u < length s = ltb-true (length u) (length s) k in ih v ((each st i).value s (again v) u q) u b r (omega arith) y
        by false k y = nope cc
    turn_holds n ih st i s b r h (fault k u) q z = nope cc
    turn_holds n ih st i s b r h cut q z = nope cc

    loop-holds : (n : ℕ) (st : S) → I st → (s : List ℕ) (b : B) (r : List ℕ) → length s < n → loop_p (λ v. (f v).run) st s ≡ done b r → Q b
    loop-holds zero st i s b r h e = absurd (omega arith)
    loop-holds (suc n) st i s b r h e = turn_holds n (loop-holds n) st i s b r (omega arith) ((f st).run s) refl (sym (loop-step (λ v. (f v).run) st s) ∙ e)

    pub holds-loop : {st : S} → I st → Holds Q (loop f st)
    holds-loop {st} i = record { value = λ s b r e. loop-holds (suc (length s)) st i s b r (omega arith) e }
