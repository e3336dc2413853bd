-- A byte and a word, as the code goes through them. Assumes nothing.
use mathlib.Core.Path.{◌≡◌, refl, sym, ap, ◌∙◌}
use mathlib.Core.Bool.{Bool, true, false, cond}
use mathlib.Core.List.{List, ◌∷◌}
use Prim.Native.Nat.{ℕ, zero, suc, ◌+◌, ◌≤◌, ◌<◌}
use native.Mathlib.Omega.{arith}
use lib.ListN.{length, get_or, drop}
use lib.Dec.{eqb}
use borrow.Author.Tests.{eq-eqb, ne_eqb}
use Rattle.scanning.specs.Steps.{here, past}
use Rattle.grammar.specs.Parse.{Out, fault, judged_to, then_out}
use Rattle.xml.specs.Xml.{byte, word}
use Rattle.xml.specs.Code.{Reads, ReadsFrom, no_value, Failed}
use Rattle.xml.specs.Code.{Scan}
use Rattle.std.specs.Prelude.{Ok, Err}
use Rattle.xml.specs.declared.Stop.TheVariants.{Fault, Cut}

-- ---- a byte

module _ (s : List ℕ) (at c k : ℕ) where
  byte-here : at < length s → (t : Bool) → eqb (get_or s at 0) c ≡ t → (byte c k).run (drop at s) ≡ judged_to (cond t 0 k) (get_or s at 0) (drop (at + 1) s) (get_or s at 0 ∷ drop (at + 1) s)
  byte-here h t q = ap (byte c k).run (here s at h) ∙ ap (λ (t : Bool). judged_to (cond t 0 k) (get_or s at 0) (drop (at + 1) s) (get_or s at 0 ∷ drop (at + 1) s)) q

  pub byte_cut : length s ≤ at → Reads 1 (byte c k).run (λ e. get_or s at 0) s at (Err Cut)
  byte_cut h = record { out = sym (ap (byte c k).run (past s at h)); inside = tt }

  pub byte-is : at < length s → get_or s at 0 ≡ c → Reads 1 (byte c k).run (λ e. get_or s at 0) s at (Ok (at + 1))
  byte-is h q = record { out = sym (byte-here h true (eq-eqb (get_or s at 0) c q)); inside = (omega arith, omega arith) }

  pub byte-any : at < length s → (get_or s at 0 ≡ c → ⊥) → k ≡ 0 → Reads 1 (byte c k).run (λ e. get_or s at 0) s at (Ok (at + 1))
  byte-any h q z = record {
    out = sym (byte-here h false (ne_eqb (get_or s at 0) c q) ∙ ap (λ (n : ℕ). judged_to n (get_or s at 0) (drop (at + 1) s) (get_or s at 0 ∷ drop (at + 1) s)) z);
    inside = (omega arith, omega arith);
  }

  pub byte-other : at < length s → (get_or s at 0 ≡ c → ⊥) → (k ≡ 0 → ⊥) → Reads 1 (byte c k).run (λ e. get_or s at 0) s at (Err (Fault k at))
  byte-other h q z = record {
    out = sym (byte-here h false (ne_eqb (get_or s at 0) c q) ∙ go k z ∙ ap (fault k) (sym (here s at h)));
    inside = (omega arith, omega arith);
  }
    where
      go : (n : ℕ) → (n ≡ 0 → ⊥) → judged_to n (get_or s at 0) (drop (at + 1) s) (get_or s at 0 ∷ drop (at + 1) s) ≡ fault n (get_or s at 0 ∷ drop (at + 1) s)
      go zero z = absurd (z refl)
      go (suc n) z = refl

-- ---- a word

-- what is left of the word, at what is left of the bytes
pub record WordInv (s : List ℕ) (at : ℕ) (w : List ℕ) (k i j : ℕ) : Type 0 where
  pub low : at + j ≤ i
  pub left : j ≤ length w
  pub high : at ≤ length s → i ≤ length s
  pub still : length s < at → i ≡ at
  pub out : (word w k).run (drop at s) ≡ (word (drop j w) k).run (drop i s)

pub word-start : (s : List ℕ) (at : ℕ) (w : List ℕ) (k : ℕ) → WordInv s at w k at 0
word-start s at w k = record { low = omega arith; left = omega arith; high = λ h. h; still = λ h. refl; out = refl }

module _ (s : List ℕ) (at : ℕ) (w : List ℕ) (k i j : ℕ) (v : WordInv s at w k i j) where
  pub word-done : length w ≤ j → ReadsFrom (length w) (word w k).run no_value s at (Ok i)
  word-done h = record {
    out = sym (v.out ∙ ap (λ (l : List ℕ). (word l k).run (drop i s)) (past w j h));
    inside = λ g. (omega (arith, v.low), v.high g);
    beyond = v.still;
  }

  module _ (h : j < length w) where
    turn : (word w k).run (drop at s) ≡ then_out ((byte (get_or w j 0) k).run (drop i s)) (λ b. (word (drop (j + 1) w) k).run)
    turn = v.out ∙ ap (λ (l : List ℕ). (word l k).run (drop i s)) (here w j h)

    abbrev K : Out ℕ → Out (Unit {0})
    K o = then_out o (λ b. (word (drop (j + 1) w) k).run)

    pub word_more : (e : ℕ) → Reads 1 (byte (get_or w j 0) k).run (λ e. get_or s i 0) s i (Ok e) → WordInv s at w k e (j + 1)
    word_more e r = record {
      low = omega (arith, v.low, r.inside);
      left = omega arith;
      high = λ g. r.inside.1;
      still = λ g. absurd (omega (arith, v.low, r.inside));
      out = turn ∙ ap K (sym r.out);
    }

    pub word-failed : (r : Scan) → Failed r → Reads 1 (byte (get_or w j 0) k).run (λ e. get_or s i 0) s i r → ReadsFrom (length w) (word w k).run no_value s at r
    word-failed (Ok e) h r = absurd h
    word-failed (Err (Fault n q)) h r = record {
      out = ap K r.out ∙ sym turn;
      inside = λ g. (omega (arith, v.low, r.inside), r.inside.1);
      beyond = λ g. absurd (omega (arith, v.low, r.inside));
    }
    word-failed (Err Cut) h r = record { out = ap K r.out ∙ sym turn; inside = λ g. tt; beyond = λ g. tt }
