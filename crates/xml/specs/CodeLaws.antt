-- Laws of `Reads`, for proofs of functions that read a slice from a place on. None names a grammar of this crate. Assumes nothing.
use Rattle.std.specs.Prelude.{◌≡◌, refl, Bool, true, false, cond, List, [], ◌∷◌, ◌++◌, ℕ, zero, suc, ◌+◌, ◌-◌, ◌≤◌, ◌<◌, length, take, drop, get_or, leb}
use Rattle.std.proofs.Common.{sym, ap, ◌∙◌, append_assoc, append-nil, arith, length-drop, take-suc, get_or-drop, lt-ltb, leb-true, leb-false}
use Rattle.scanning.specs.Steps.{here, past}
use Rattle.grammar.specs.Parse.{Out, done, fault, cut, Parser, then_out, bind_p, ret_p, look_p, eat_p, span_p, strict_out, strict_p, look_two_p, judged_to, judge_out, judge_p, blame_out, blame_p}
use Rattle.xml.specs.Code.{part, scan_out, scan_at, Inside, Stays, Reads, ReadsFrom, blamed_scan, Failed}
use Rattle.xml.specs.Code.{Scan}
use Rattle.std.specs.Prelude.{Ok, Err}
use Rattle.xml.specs.declared.Stop.TheVariants.{Fault, Cut}

-- ---- parts of a slice

pub part_none : (s : List ℕ) (a : ℕ) → part s a a ≡ []
part_none s a = let z : a - a ≡ 0 = omega arith in ap (λ (n : ℕ). take n (drop a s)) z

-- one byte more at its end
pub part-more : (s : List ℕ) (a i : ℕ) → a ≤ i → i < length s → part s a (i + 1) ≡ part s a i ++ (get_or s i 0 ∷ [])
part-more s a i h k =
    let e : (i + 1) - a ≡ suc (i - a) = omega arith in
    let e₂ : a + (i - a) ≡ i = omega arith in
    ap (λ (n : ℕ). take n (drop a s)) e ∙ take-suc (drop a s) (i - a) 0 (simp length-drop (omega arith))
    ∙ ap (λ (b : ℕ). part s a i ++ (b ∷ [])) (get_or-drop a s (i - a) 0 ∙ ap (λ (n : ℕ). get_or s n 0) e₂)

-- one byte more at its start
pub part-first : (s : List ℕ) (a e : ℕ) → a + 1 ≤ e → e ≤ length s → part s a e ≡ get_or s a 0 ∷ part s (a + 1) e
part-first s a e h k =
    let z : e - a ≡ suc (e - (a + 1)) = omega arith in
    ap (λ (n : ℕ). take n (drop a s)) z ∙ ap (take (suc (e - (a + 1)))) (here s a (omega arith))

-- ---- one answer

module _ {A : Type 0} (p : Parser A) (value : ℕ → A) (s : List ℕ) (at : ℕ) where
  -- the bytes have ended
  pub reads-ended : (n : ℕ) → p [] ≡ cut → length s ≤ at → Reads n p value s at (Err Cut)
  reads-ended n q h = record { out = sym (ap p (past s at h) ∙ q); inside = tt }

  fewer : (n m : ℕ) → m ≤ n → (r : Scan) → Inside n s at r → Inside m s at r
  fewer n m h (Ok e) i = (omega arith, i.1)
  fewer n m h (Err (Fault k q)) i = i
  fewer n m h (Err Cut) i = tt

  -- n bytes at least are m at least
  pub reads-fewer : (n m : ℕ) (r : Scan) → m ≤ n → Reads n p value s at r → Reads m p value s at r
  reads-fewer n m r h v = record { out = v.out; inside = fewer n m h r v.inside }

  -- a place within the bytes
  pub reads-from : (n : ℕ) (r : Scan) → at ≤ length s → ReadsFrom n p value s at r → Reads n p value s at r
  reads-from n r h v = record { out = v.out; inside = v.inside h }

  -- a fault in it has its first byte for a place
  pub reads-blame : (n : ℕ) (r : Scan) → Reads n p value s at r → Reads n (blame_p p) value s at (blamed_scan r at)
  reads-blame n (Ok e) v = record { out = ap (λ (o : Out A). blame_out o (drop at s)) v.out; inside = v.inside }
  reads-blame n (Err (Fault k q)) v = record { out = ap (λ (o : Out A). blame_out o (drop at s)) v.out; inside = (omega arith, omega (arith, v.inside)) }
  reads-blame n (Err Cut) v = record { out = ap (λ (o : Out A). blame_out o (drop at s)) v.out; inside = tt }

-- ---- a place within the bytes is determined by the bytes that are left there: there is one answer

-- a place behind `at`, by what is left at both
pub place-left : (s : List ℕ) (at e : ℕ) → at ≤ e → e ≤ length s → e ≡ at + (length (drop at s) - length (drop e s))
place-left s at e h k = simp length-drop (omega arith)

-- behind the end nothing is left, and nothing is taken
place-beyond : (s : List ℕ) (at : ℕ) → length s < at → at ≡ at + (length (drop at s) - length (drop at s))
place-beyond s at h = omega arith

module _ {A : Type 0} (value : ℕ → A) (s : List ℕ) (at : ℕ) where
  placed-inside : (n : ℕ) (r : Scan) → Inside n s at r → r ≡ scan_at at (drop at s) (scan_out value s r)
  placed-inside n (Ok e) i = ap Ok (place-left s at e (omega (arith, i.0)) i.1)
  placed-inside n (Err (Fault k q)) i = ap (λ z. Err (Fault k z)) (place-left s at q i.0 i.1)
  placed-inside n (Err Cut) i = refl

  placed-beyond : (r : Scan) → length s < at → Stays at r → r ≡ scan_at at (drop at s) (scan_out value s r)
  placed-beyond (Ok e) h q = rw q (ap Ok (place-beyond s at h))
  placed-beyond (Err (Fault k e)) h q = rw q (ap (λ z. Err (Fault k z)) (place-beyond s at h))
  placed-beyond (Err Cut) h q = refl

module _ {A : Type 0} (p : Parser A) (value : ℕ → A) (s : List ℕ) (at n : ℕ) (r : Scan) where
  -- the answer of every function whose contract is `Reads`
  pub reads-placed : Reads n p value s at r → r ≡ scan_at at (drop at s) (p (drop at s))
  reads-placed v = placed-inside value s at n r v.inside ∙ ap (scan_at at (drop at s)) v.out

  -- the same for `ReadsFrom`
  pub reads-from-placed : ReadsFrom n p value s at r → r ≡ scan_at at (drop at s) (p (drop at s))
  reads-from-placed v = go (leb at (length s)) refl ∙ ap (scan_at at (drop at s)) v.out
    where
      go : (t : Bool) → leb at (length s) ≡ t → r ≡ scan_at at (drop at s) (scan_out value s r)
      go true q = placed-inside value s at n r (v.inside (leb-true at (length s) q))
      go false q = placed-beyond value s at r (leb-false at (length s) q) (v.beyond (leb-false at (length s) q))

-- ---- by the next byte

module _ {A : Type 0} (f : ℕ → Parser A) (s : List ℕ) (at : ℕ) (h : at < length s) where
  pub look_at : look_p f (drop at s) ≡ f (get_or s at 0) (drop at s)
  look_at = ap (look_p f) (here s at h) ∙ ap (f (get_or s at 0)) (sym (here s at h))

  -- what the next byte chooses, the answer r is of
  pub reads-look : (p : Parser A) (value : ℕ → A) (n : ℕ) (r : Scan) → f (get_or s at 0) ≡ p → Reads n p value s at r → Reads n (look_p f) value s at r
  reads-look p value n r q v = record { out = v.out ∙ sym (look_at ∙ ap (λ (g : Parser A). g (drop at s)) q); inside = v.inside }

-- a byte, whatever it is
pub reads-eat : (s : List ℕ) (at : ℕ) → at < length s → Reads 1 eat_p (λ e. get_or s at 0) s at (Ok (at + 1))
reads-eat s at h = record { out = sym (ap eat_p (here s at h)); inside = (omega arith, omega arith) }

-- by the next two bytes
pub look-two-at : {A : Type 0} (f : ℕ → ℕ → Parser A) (s : List ℕ) (at : ℕ) → at + 1 < length s
    → look_two_p f (drop at s) ≡ strict_p (f (get_or s at 0) (get_or s (at + 1) 0)) (drop at s)
look-two-at f s at h =
    let q : drop at s ≡ get_or s at 0 ∷ get_or s (at + 1) 0 ∷ drop (at + 1 + 1) s =
    here s at (omega arith) ∙ ap (λ (l : List ℕ). get_or s at 0 ∷ l) (here s (at + 1) h) in
    ap (look_two_p f) q ∙ ap (strict_p (f (get_or s at 0) (get_or s (at + 1) 0))) (sym q)

-- ---- one after the other

module _ {A B : Type 0} (p : Parser A) (value : ℕ → A) (f : A → Parser B) (value₂ : ℕ → B) (s : List ℕ) (at : ℕ) where
  inside-then : (n m e : ℕ) → Inside n s at (Ok e) → (r : Scan) → Inside m s e r → Inside (n + m) s at r
  inside-then n m e i (Ok e₂) j = (omega arith, j.1)
  inside-then n m e i (Err (Fault k q)) j = (omega arith, j.1)
  inside-then n m e i (Err Cut) j = tt

  pub reads_then : (n m e : ℕ) (r : Scan) → Reads n p value s at (Ok e) → Reads m (f (value e)) value₂ s e r → Reads (n + m) (bind_p p f) value₂ s at r
  reads_then n m e r v w = record {
    out = w.out ∙ ap (λ (o : Out A). then_out o f) v.out;
    inside = inside-then n m e v.inside r w.inside;
  }

  pub reads-failed : (n m : ℕ) (r : Scan) → Failed r → Reads n p value s at r → Reads m (bind_p p f) value₂ s at r
  reads-failed n m (Ok e) h v = absurd h
  reads-failed n m (Err (Fault k q)) h v = record { out = ap (λ (o : Out A). then_out o f) v.out; inside = v.inside }
  reads-failed n m (Err Cut) h v = record { out = ap (λ (o : Out A). then_out o f) v.out; inside = tt }

module _ {A B : Type 0} (p : Parser A) (value : ℕ → A) (b : B) (s : List ℕ) (at : ℕ) where
  -- another value in place of the one that was read
  pub reads-ret : (n : ℕ) (r : Scan) → Reads n p value s at r → Reads n (bind_p p (λ a. ret_p b)) (λ e. b) s at r
  reads-ret n (Ok e) v = record { out = ap (λ (o : Out A). then_out o (λ a. ret_p b)) v.out; inside = v.inside }
  reads-ret n (Err (Fault k q)) v = record { out = ap (λ (o : Out A). then_out o (λ a. ret_p b)) v.out; inside = v.inside }
  reads-ret n (Err Cut) v = record { out = ap (λ (o : Out A). then_out o (λ a. ret_p b)) v.out; inside = tt }

-- ---- a value that is judged, and a byte at least that is read

pub verdict-well : {A : Type 0} (k : ℕ) (a : A) (r s : List ℕ) → k ≡ 0 → judged_to k a r s ≡ done a r
verdict-well k a r s q = rw q

pub verdict-ill : {A : Type 0} (k : ℕ) (a : A) (r s : List ℕ) → (k ≡ 0 → ⊥) → judged_to k a r s ≡ fault k s
verdict-ill zero a r s q = absurd (q refl)
verdict-ill (suc k) a r s q = refl

module _ {A : Type 0} (p : Parser A) (value : ℕ → A) (s : List ℕ) (at : ℕ) where
  module _ (j : A → ℕ) where
    pub reads-well : (n e : ℕ) → j (value e) ≡ 0 → Reads n p value s at (Ok e) → Reads n (judge_p j p) value s at (Ok e)
    reads-well n e q v = record {
      out = sym (ap (λ (o : Out A). judge_out j o (drop at s)) (sym v.out) ∙ verdict-well (j (value e)) (value e) (drop e s) (drop at s) q);
      inside = v.inside;
    }

    pub reads-ill : (n m e k : ℕ) → j (value e) ≡ k → (k ≡ 0 → ⊥) → Reads n p value s at (Ok e) → Reads m (judge_p j p) value s at (Err (Fault k at))
    reads-ill n m e k q z v = record {
      out = sym (ap (λ (o : Out A). judge_out j o (drop at s)) (sym v.out) ∙ ap (λ (i : ℕ). judged_to i (value e) (drop e s) (drop at s)) q
          ∙ verdict-ill k (value e) (drop e s) (drop at s) z);
      inside = (omega arith, omega (arith, v.inside));
    }

    pub reads-unjudged : (n m : ℕ) (r : Scan) → Failed r → Reads n p value s at r → Reads m (judge_p j p) value s at r
    reads-unjudged n m (Ok e) f v = absurd f
    reads-unjudged n m (Err (Fault k q)) f v = record { out = ap (λ (o : Out A). judge_out j o (drop at s)) v.out; inside = v.inside }
    reads-unjudged n m (Err Cut) f v = record { out = ap (λ (o : Out A). judge_out j o (drop at s)) v.out; inside = tt }

  -- it has read a byte already
  pub reads-strict : (n : ℕ) (r : Scan) → 1 ≤ n → Reads n p value s at r → Reads n (strict_p p) value s at r
  reads-strict n (Ok e) h v =
      let l : length (drop e s) < length (drop at s) = simp length-drop (omega (arith, v.inside)) in
      record {
        out = sym (ap (λ (o : Out A). strict_out o (drop at s)) (sym v.out) ∙ ap (λ (t : Bool). cond t (done (value e) (drop e s)) cut) (lt-ltb (length (drop e s)) (length (drop at s)) l));
        inside = v.inside;
      }
  reads-strict n (Err (Fault k q)) h v = record { out = ap (λ (o : Out A). strict_out o (drop at s)) v.out; inside = v.inside }
  reads-strict n (Err Cut) h v = record { out = ap (λ (o : Out A). strict_out o (drop at s)) v.out; inside = tt }

-- ---- the bytes that pass a test

module _ (test : ℕ → Bool) where
  span-yes : (b : ℕ) (s : List ℕ) → test b ≡ true → span_p test (b ∷ s) ≡ then_out (span_p test s) (λ w. ret_p (b ∷ w))
  span-yes b s q = rw q

  span-no : (b : ℕ) (s : List ℕ) → test b ≡ false → span_p test (b ∷ s) ≡ done [] (b ∷ s)
  span-no b s q = rw q

  -- what is still to be read, put after what has been read
  pub record SpanInv (s : List ℕ) (at i : ℕ) : Type 0 where
    pub low : at ≤ i
    pub out : span_p test (drop at s) ≡ then_out (span_p test (drop i s)) (λ w. ret_p (part s at i ++ w))

  pub span-start : (s : List ℕ) (at : ℕ) → SpanInv s at at
  span-start s at = record { low = omega arith; out = rw part_none (go (span_p test (drop at s))) }
    where
      go : (o : Out (List ℕ)) → o ≡ then_out o (λ w. ret_p ([] ++ w))
      go (done w r) = refl
      go (fault k r) = refl
      go cut = refl

  grow : (p : List ℕ) (b : ℕ) (q : List ℕ) → q ≡ p ++ (b ∷ []) → (o : Out (List ℕ))
      → then_out (then_out o (λ w. ret_p (b ∷ w))) (λ w. ret_p (p ++ w)) ≡ then_out o (λ w. ret_p (q ++ w))
  grow p b q e (done w r) = ap (λ (l : List ℕ). done l r) (sym (append_assoc p (b ∷ []) w) ∙ ap (λ (l : List ℕ). l ++ w) (sym e))
  grow p b q e (fault k r) = refl
  grow p b q e cut = refl

  -- a byte that passes
  pub span_more : (s : List ℕ) (at i : ℕ) → SpanInv s at i → i < length s → test (get_or s i 0) ≡ true → SpanInv s at (i + 1)
  span_more s at i v h q = record {
    low = omega (arith, v.low);
    out = v.out ∙ ap (λ (o : Out (List ℕ)). then_out o (λ w. ret_p (part s at i ++ w))) (ap (span_p test) (here s i h) ∙ span-yes (get_or s i 0) (drop (i + 1) s) q)
        ∙ grow (part s at i) (get_or s i 0) (part s at (i + 1)) (part-more s at i v.low h) (span_p test (drop (i + 1) s));
  }

  -- the first that does not
  pub span-stop : (s : List ℕ) (at i : ℕ) → SpanInv s at i → i < length s → test (get_or s i 0) ≡ false → Reads 0 (span_p test) (part s at) s at (Ok i)
  span-stop s at i v h q = record {
    out = sym (v.out ∙ ap (λ (o : Out (List ℕ)). then_out o (λ w. ret_p (part s at i ++ w)))
        (ap (span_p test) (here s i h) ∙ span-no (get_or s i 0) (drop (i + 1) s) q ∙ ap (λ (l : List ℕ). done [] l) (sym (here s i h)))
        ∙ ap (λ (l : List ℕ). done l (drop i s)) (append-nil (part s at i)));
    inside = (omega (arith, v.low), omega arith);
  }

  -- none is left
  pub span-end : (s : List ℕ) (at i : ℕ) → SpanInv s at i → length s ≤ i → Reads 0 (span_p test) (part s at) s at (Err Cut)
  span-end s at i v h = record {
    out = sym (v.out ∙ ap (λ (l : List ℕ). then_out (span_p test l) (λ w. ret_p (part s at i ++ w))) (past s i h));
    inside = tt;
  }

  -- a first byte that passes, and the others
  pub span-first : (n : ℕ) (s : List ℕ) (at : ℕ) (r : Scan) → at < length s → test (get_or s at 0) ≡ true
      → Reads n (span_p test) (part s (at + 1)) s (at + 1) r → Reads (1 + n) (span_p test) (part s at) s at r
  span-first n s at r h q v = go r v
    where
      first : span_p test (drop at s) ≡ then_out (span_p test (drop (at + 1) s)) (λ w. ret_p (get_or s at 0 ∷ w))
      first = ap (span_p test) (here s at h) ∙ span-yes (get_or s at 0) (drop (at + 1) s) q

      K : Out (List ℕ) → Out (List ℕ)
      K o = then_out o (λ w. ret_p (get_or s at 0 ∷ w))

      go : (r : Scan) → Reads n (span_p test) (part s (at + 1)) s (at + 1) r → Reads (1 + n) (span_p test) (part s at) s at r
      go (Ok e) v =
          let i : (at + 1 + n ≤ e) × (e ≤ length s) = v.inside in
          record {
            out = ap (λ (l : List ℕ). done l (drop e s)) (part-first s at e (omega arith) i.1) ∙ ap K v.out ∙ sym first;
            inside = (omega arith, i.1);
          }
      go (Err (Fault k e)) v = record { out = ap K v.out ∙ sym first; inside = (omega (arith, v.inside), v.inside.1) }
      go (Err Cut) v = record { out = ap K v.out ∙ sym first; inside = tt }
