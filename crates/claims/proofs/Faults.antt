-- Which numbers a grammar's faults have, and what stands at their places, form by form. Assumes nothing.
use mathlib.Core.Path.{◌≡◌, refl, sym, ◌∙◌, subst}
use mathlib.Core.Bool.{Bool, true, false, cond}
use mathlib.Core.List.{List, [], ◌∷◌}
use Prim.Native.Nat.{ℕ, zero, suc, ◌≤◌, ◌<◌, min}
use native.Mathlib.Omega.{arith}
use lib.Dec.{ltb, leb}
use lib.ListN.{length}
use borrow.Author.Tests.{ltb-true, leb-true, leb-false}
use Rattle.grammar.specs.Parse.{Out, done, fault, cut, Turn, again, last, same_place, then_out, ret_p, strict_out, judged_to, judge_out, settle_out, blame_out, kept_out, span_p, turn_out, loop_p}
use Rattle.grammar.specs.Laws.{nope, loop-step}
use Rattle.grammar.specs.Grammar.{G, ret, bad, look, look_two, strict, judge, settle, blame, kept, eat, span, seq, loop}
use Rattle.xml.specs.Xml.{byte, word}
use lib.Dec.{eqb}

-- what is said of a fault: its number, and the bytes from its place on
abbrev pub Saying : Type 1
Saying = ℕ → List ℕ → Type 0

-- P holds of each fault of p
pub record Blames {A : Type 0} (P : Saying) (p : G A) : Type 0 where
  pub number : (s : List ℕ) (k : ℕ) (r : List ℕ) → p.run s ≡ fault k r → P k r

-- the same of bytes that Q holds of
pub record BlamesOn {A : Type 0} (Q : List ℕ → Type 0) (P : Saying) (p : G A) : Type 0 where
  pub number : (s : List ℕ) → Q s → (k : ℕ) (r : List ℕ) → p.run s ≡ fault k r → P k r

-- bytes that begin with b
abbrev pub Begins : ℕ → List ℕ → Type 0
Begins b s = (u : List ℕ) × (s ≡ b ∷ u)

pub blames-on : {A : Type 0} {Q : List ℕ → Type 0} {P : Saying} {p : G A} → Blames P p → BlamesOn Q P p
blames-on h = record { number = λ s q k r e. h.number s k r e }

everywhere : {A : Type 0} {P : Saying} {p : G A} → BlamesOn (λ s. Unit {0}) P p → Blames P p
everywhere h = record { number = λ s k r e. h.number s tt k r e }

-- P holds of this number wherever it is placed
abbrev pub Anywhere : Saying → Saying
Anywhere P k r = (u : List ℕ) → P k u

-- 0, or a number of which P holds anywhere
pub record Fair (P : Saying) (n : ℕ) : Type 0 where
  pub is : (k : ℕ) → n ≡ suc k → (r : List ℕ) → P (suc k) r

pub fair-anywhere : {P : Saying} {n : ℕ} → Fair P n → Fair (Anywhere P) n
fair-anywhere f = record { is = λ k e r u. f.is k e u }

-- a fault is what it is
same-fault : {A : Type 0} (P : Saying) (i k : ℕ) (u r : List ℕ) → ◌≡◌ {A = Out A} (fault i u) (fault k r) → P i u → P k r
same-fault P i k u r e h = let x : i ≡ k = cc in let y : u ≡ r = cc in subst (λ (l : List ℕ). P k l) y (subst (λ (n : ℕ). P n u) x h)

pub fair-zero : {P : Saying} → Fair P 0
fair-zero = record { is = λ k e. absurd (omega arith) }

pub fair-by : {P : Saying} (n : ℕ) → ((r : List ℕ) → P n r) → Fair P n
fair-by {P} n p = record { is = λ k e r. subst (λ (m : ℕ). P m r) e (p r) }

pub fair-cond : {P : Saying} {x y : ℕ} (v : Bool) → Fair P x → Fair P y → Fair P (cond v x y)
fair-cond true a b = a
fair-cond false a b = b

strict-fault : {A : Type 0} (o : Out A) (s : List ℕ) (k : ℕ) (r : List ℕ) → strict_out o s ≡ fault k r → o ≡ fault k r
strict-fault {A} (done b u) s k r q = by-test (ltb (length u) (length s)) q
  where
    by-test : (v : Bool) → cond v (done b u) cut ≡ fault k r → done b u ≡ fault k r
    by-test true z = z
    by-test false z = nope cc
strict-fault (fault j u) s k r q = q
strict-fault cut s k r q = nope cc

verdict-fault : (P : Saying) {A : Type 0} (n : ℕ) (s : List ℕ) → ((k : ℕ) → n ≡ suc k → P (suc k) s) → (a : A) (u : List ℕ) (k : ℕ) (r : List ℕ) → judged_to n a u s ≡ fault k r → P k r
verdict-fault P zero s h a u k r e = nope cc
verdict-fault P {A} (suc n) s h a u k r e = same-fault {A = A} P (suc n) k s r e (h n refl)

least : (P : ℕ → Type 0) (a b : ℕ) → P a → P b → P (min a b)
least P a b p q = go (leb a b) refl
  where
    go : (v : Bool) → leb a b ≡ v → P (min a b)
    go true h = let l : a ≤ b = leb-true a b h in let e : a ≡ min a b = omega arith in subst P e p
    go false h = let l : b < a = leb-false a b h in let e : b ≡ min a b = omega arith in subst P e q

span-fault : (P : Saying) (test : ℕ → Bool) (s : List ℕ) (k : ℕ) (r : List ℕ) → span_p test s ≡ fault k r → P k r
span-fault P test [] k r e = nope cc
span-fault P test (b ∷ s) k r e = by (test b) (span_p test s) refl (span-fault P test s) e
  where
    by : (v : Bool) (o : Out (List ℕ)) → span_p test s ≡ o → ((k : ℕ) (r : List ℕ) → span_p test s ≡ fault k r → P k r)
        → cond v (then_out o (λ w. ret_p (b ∷ w))) (done [] (b ∷ s)) ≡ fault k r → P k r
    by true (done w u) q ih z = nope cc
    by true (fault i u) q ih z = same-fault {A = List ℕ} P i k u r z (ih i u q)
    by true cut q ih z = nope cc
    by false o q ih z = nope cc

module _ {P : Saying} {A : Type 0} where
  pub blames-ret : (a : A) → Blames P (ret a)
  blames-ret a = record { number = λ s k r e. nope cc }

  pub blames-bad : (k : ℕ) → ((r : List ℕ) → P k r) → Blames P (bad {A = A} k)
  blames-bad k h = record { number = λ s j r e. same-fault {A = A} P k j s r e (h s) }

  pub blames-cond : {p q : G A} (v : Bool) → Blames P p → Blames P q → Blames P (cond v p q)
  blames-cond true h g = h
  blames-cond false h g = g

  pub look-on : {f : ℕ → G A} → ((b : ℕ) → BlamesOn (Begins b) P (f b)) → Blames P (look f)
  look-on {f} h = record { number = go }
    where
      go : (s : List ℕ) (k : ℕ) (r : List ℕ) → (look f).run s ≡ fault k r → P k r
      go [] k r e = nope cc
      go (b ∷ s) k r e = (h b).number (b ∷ s) (s, refl) k r e

  pub blames-look : {f : ℕ → G A} → ((b : ℕ) → Blames P (f b)) → Blames P (look f)
  blames-look h = look-on (λ b. blames-on (h b))

  pub cond-on : {Q : List ℕ → Type 0} {p q : G A} (v : Bool) → (v ≡ true → BlamesOn Q P p) → (v ≡ false → BlamesOn Q P q) → BlamesOn Q P (cond v p q)
  cond-on true h g = h refl
  cond-on false h g = g refl

  pub blames-strict : {p : G A} → Blames P p → Blames P (strict p)
  blames-strict {p} h = record { number = λ s k r e. h.number s k r (strict-fault (p.run s) s k r e) }

  pub blames-look_two : {f : ℕ → ℕ → G A} → ((b c : ℕ) → Blames P (f b c)) → Blames P (look_two f)
  blames-look_two {f} h = record { number = go }
    where
      go : (s : List ℕ) (k : ℕ) (r : List ℕ) → (look_two f).run s ≡ fault k r → P k r
      go [] k r e = nope cc
      go (b ∷ []) k r e = nope cc
      go (b ∷ c ∷ s) k r e = (blames-strict (h b c)).number (b ∷ c ∷ s) k r e

  -- judged by what was read, at the place where it begins
  pub judge-on : {Q : List ℕ → Type 0} {p : G A} (j : A → ℕ) → ((s : List ℕ) → Q s → (a : A) (u : List ℕ) → p.run s ≡ done a u → (k : ℕ) → j a ≡ suc k → P (suc k) s) → Blames P p
      → BlamesOn Q P (judge j p)
  judge-on {Q} {p} j f h = record { number = λ s i k r e. go s i k r (p.run s) refl e }
    where
      go : (s : List ℕ) → Q s → (k : ℕ) (r : List ℕ) (o : Out A) → p.run s ≡ o → judge_out j o s ≡ fault k r → P k r
      go s i k r (done a u) q z = verdict-fault P (j a) s (f s i a u q) a u k r z
      go s i k r (fault n u) q z = h.number s k r (q ∙ z)
      go s i k r cut q z = nope cc

  pub blames-judge : {p : G A} (j : A → ℕ) → ((a : A) → Fair P (j a)) → Blames P p → Blames P (judge j p)
  blames-judge j f h = everywhere (judge-on j (λ s i a u q k e. (f a).is k e s) h)

  -- the place may move to the first byte: so P has to hold anywhere of what is at fault inside
  pub blames-settle : {p : G A} (v : ℕ) → Fair P v → Blames (Anywhere P) p → Blames P (settle v p)
  blames-settle {p} zero f h = record { number = λ s k r e. go s k r (p.run s) refl e }
    where
      go : (s : List ℕ) (k : ℕ) (r : List ℕ) (o : Out A) → p.run s ≡ o → settle_out zero o s ≡ fault k r → P k r
      go s k r (done a u) q z = nope cc
      go s k r (fault i u) q z = h.number s k r (q ∙ z) r
      go s k r cut q z = nope cc
  blames-settle {p} (suc v) f h = record { number = λ s k r e. go s k r (p.run s) refl e }
    where
      by_place : (s : List ℕ) (k : ℕ) (r : List ℕ) (b : Bool) (i : ℕ) → P i s → ◌≡◌ {A = Out A} (cond b (fault (min (suc v) i) s) (fault (suc v) s)) (fault k r) → P k r
      by_place s k r true i p z = same-fault {A = A} P (min (suc v) i) k s r z (least (λ (n : ℕ). P n s) (suc v) i (f.is v refl s) p)
      by_place s k r false i p z = same-fault {A = A} P (suc v) k s r z (f.is v refl s)

      go : (s : List ℕ) (k : ℕ) (r : List ℕ) (o : Out A) → p.run s ≡ o → settle_out (suc v) o s ≡ fault k r → P k r
      go s k r (done a u) q z = same-fault {A = A} P (suc v) k s r z (f.is v refl s)
      go s k r (fault i u) q z = by_place s k r (same_place u s) i (h.number s i u q s) z
      go s k r cut q z = nope cc

  -- and so it does here
  pub blames-blame : {p : G A} → Blames (Anywhere P) p → Blames P (blame p)
  blames-blame {p} h = record { number = λ s k r e. go s k r (p.run s) refl e }
    where
      go : (s : List ℕ) (k : ℕ) (r : List ℕ) (o : Out A) → p.run s ≡ o → blame_out o s ≡ fault k r → P k r
      go s k r (done a u) q z = nope cc
      go s k r (fault i u) q z = same-fault {A = A} P i k s r z (h.number s i u q s)
      go s k r cut q z = nope cc

  pub blames-kept : {p : G A} → Blames P p → Blames P (kept p)
  blames-kept {p} h = record { number = λ s k r e. go s k r (p.run s) refl e }
    where
      go : (s : List ℕ) (k : ℕ) (r : List ℕ) (o : Out A) → p.run s ≡ o → kept_out o s ≡ fault k r → P k r
      go s k r (done a u) q z = nope cc
      go s k r (fault i u) q z = same-fault {A = A × List ℕ} P i k u r z (h.number s i u q)
      go s k r cut q z = nope cc

module _ {P : Saying} where
  pub blames-eat : Blames P eat
  blames-eat = record { number = go }
    where
      go : (s : List ℕ) (k : ℕ) (r : List ℕ) → eat.run s ≡ fault k r → P k r
      go [] k r e = nope cc
      go (b ∷ s) k r e = nope cc

  pub blames-span : (test : ℕ → Bool) → Blames P (span test)
  blames-span test = record { number = span-fault P test }

  pub blames-byte : (c k : ℕ) → Fair P k → Blames P (byte c k)
  blames-byte c k h = blames-judge (λ b. cond (eqb b c) 0 k) (λ b. fair-cond (eqb b c) fair-zero h) blames-eat

module _ {P : Saying} {A B : Type 0} where
  pub seq_on : {Q : List ℕ → Type 0} {p : G A} {f : A → G B} → BlamesOn Q P p → ((a : A) → Blames P (f a)) → BlamesOn Q P (seq p f)
  seq_on {Q} {p} {f} h g = record { number = λ s i k r e. go s i k r (p.run s) refl e }
    where
      go : (s : List ℕ) → Q s → (k : ℕ) (r : List ℕ) (o : Out A) → p.run s ≡ o → then_out o (λ a. (f a).run) ≡ fault k r → P k r
      go s i k r (done a u) q z = (g a).number u k r z
      go s i k r (fault n u) q z = same-fault {A = B} P n k u r z (h.number s i n u q)
      go s i k r cut q z = nope cc

  pub blames-seq : {p : G A} {f : A → G B} → Blames P p → ((a : A) → Blames P (f a)) → Blames P (seq p f)
  blames-seq h g = everywhere (seq_on (blames-on h) g)

pub blames-word : {P : Saying} (w : List ℕ) (k : ℕ) → Fair P k → Blames P (word w k)
blames-word [] k h = blames-ret tt
blames-word (c ∷ w) k h = blames-seq (blames-byte c k h) (λ b. blames-word w k h)

-- ---- loops

module _ {P : Saying} {S B : Type 0} {f : S → G (Turn S B)} (each : (st : S) → Blames P (f st)) where
  turn-blames : (n : ℕ) → ((st : S) (s : List ℕ) (k : ℕ) (r : List ℕ) → length s < n → loop_p (λ v. (f v).run) st s ≡ fault k r → P k r)
      → (st : S) (s : List ℕ) (k : ℕ) (r : List ℕ) → length s ≤ n
      → (o : Out (Turn S B)) → (f st).run s ≡ o → turn_out (loop_p (λ v. (f v).run)) o s ≡ fault k r → P k r
  turn-blames n ih st s k r h (done (last a) u) q z = nope cc
  turn-blames n ih st s k r h (done (again v) u) q z = by (ltb (length u) (length s)) refl z
    where
      by : (t : Bool) → ltb (length u) (length s) ≡ t → cond t (loop_p (λ v. (f v).run) v u) cut ≡ fault k r → P k r
      by true g y = let l : length u < length s = ltb-true (length u) (length s) g in ih v u k r (omega arith) y
      by false g y = nope cc
  turn-blames n ih st s k r h (fault i u) q z = same-fault {A = B} P i k u r z ((each st).number s i u q)
  turn-blames n ih st s k r h cut q z = nope cc

  loop-blames : (n : ℕ) (st : S) (s : List ℕ) (k : ℕ) (r : List ℕ) → length s < n → loop_p (λ v. (f v).run) st s ≡ fault k r → P k r
  loop-blames zero st s k r h e = absurd (omega arith)
  loop-blames (suc n) st s k r h e = turn-blames n (loop-blames n) st s k r (omega arith) ((f st).run s) refl (sym (loop-step (λ v. (f v).run) st s) ∙ e)

  pub blames-loop : (st : S) → Blames P (loop f st)
  blames-loop st = record { number = λ s k r e. loop-blames (suc (length s)) st s k r (omega arith) e }
