-- What holds of every grammar: an answer depends on the bytes that it took and on one byte more. So a value or a fault stays as bytes are appended.
use Rattle.std.specs.Prelude.{◌≡◌, List, [], ◌∷◌, ◌++◌, Bool, ℕ, zero, suc, ◌-◌, ◌≤◌, ◌<◌, min, take}
use Rattle.std.proofs.Math.Path.{refl}
use Rattle.std.proofs.Common.{sym, ap, ◌∙◌, subst, append_assoc, arith, length-append}
use Rattle.std.proofs.Math.Bool.{true, false, cond}
use Rattle.std.proofs.Math.ListN.{length}
use Rattle.std.proofs.Math.Seq.{take-append_seam}
use Rattle.std.proofs.Math.Dec.{ltb}
use borrow.Author.Tests.{ltb-true, lt-ltb, le-ltb, eq-eqb, ne_eqb}
use Rattle.grammar.specs.Parse.{Out, done, fault, cut, Parser, Turn, again, last, before, then_out, bind_p, ret_p, bad_p, look_p, strict_out, strict_p, look_two_p, judged_to}
use Rattle.grammar.specs.Parse.{judge_out, judge_p, settle_out, settle_p, blame_out, blame_p, kept_out, kept_p, eat_p, span_p, turn_out, loop_f, loop_p}
use Rattle.grammar.specs.Parse.{state_out, state_f, loop_state}

-- 0 is not 1
pub nope : {X : Type 0} → ◌≡◌ {A = ℕ} 0 1 → X
nope e = absurd (omega arith)

-- t may stand where r stood: it starts with r's first byte, if r has one
abbrev pub Follows : List ℕ → List ℕ → Type 0
Follows [] t = Unit {0}
Follows (b ∷ r) t = (u : List ℕ) × (t ≡ b ∷ u)

pub follows-self : (r t : List ℕ) → Follows r (r ++ t)
follows-self [] t = tt
follows-self (b ∷ r) t = (r ++ t, refl)

pub follows-refl : (r : List ℕ) → Follows r r
follows-refl [] = tt
follows-refl (b ∷ r) = (r, refl)

pub follows-app : (c r t : List ℕ) → Follows r t → Follows (c ++ r) (c ++ t)
follows-app [] r t h = h
follows-app (b ∷ c) r t h = (c ++ t, refl)

-- what p makes of s, and of other bytes in its place
pub data StrongPrefix {A : Type 0} (p : Parser A) (s : List ℕ) : Type 0 where
  cuts : p s ≡ cut → StrongPrefix p s
  faults : (k : ℕ) (c r : List ℕ) → s ≡ c ++ r → ((t : List ℕ) → p (s ++ t) ≡ fault k (r ++ t)) → StrongPrefix p s
  dones : (a : A) (c r : List ℕ) → s ≡ c ++ r → ((t : List ℕ) → Follows r t → p (c ++ t) ≡ done a t) → StrongPrefix p s

seam : (s c r t : List ℕ) → s ≡ c ++ r → s ++ t ≡ c ++ (r ++ t)
seam s c r t e = ap (λ (x : List ℕ). x ++ t) e ∙ append_assoc c r t

pub before-app : (c r : List ℕ) → before (c ++ r) r ≡ c
before-app c r =
    let e : length (c ++ r) - length r ≡ length c = simp length-append (omega arith) in
    ap (λ (n : ℕ). take n (c ++ r)) e ∙ take-append_seam c r

-- ---- one after the other

module _ {A B : Type 0} (p : Parser A) (f : A → Parser B) where
  bind-go : (s : List ℕ) (a : A) (c r : List ℕ) → s ≡ c ++ r → ((t : List ℕ) → Follows r t → p (c ++ t) ≡ done a t)
      → StrongPrefix (f a) r → StrongPrefix (bind_p p f) s
  bind-go s a c r e h (cuts q) = cuts (ap (λ (x : List ℕ). bind_p p f x) e ∙ ap (λ (o : Out A). then_out o f) (h r (follows-refl r)) ∙ q)
  bind-go s a c r e h (faults k c₂ r₂ e₂ h₂) =
      faults k (c ++ c₂) r₂ (e ∙ ap (λ (x : List ℕ). c ++ x) e₂ ∙ sym (append_assoc c c₂ r₂))
      (λ t. ap (λ (x : List ℕ). bind_p p f (x ++ t)) e ∙ ap (λ (x : List ℕ). bind_p p f x) (append_assoc c r t)
      ∙ ap (λ (o : Out A). then_out o f) (h (r ++ t) (follows-self r t)) ∙ h₂ t)
  bind-go s a c r e h (dones b c₂ r₂ e₂ h₂) =
      dones b (c ++ c₂) r₂ (e ∙ ap (λ (x : List ℕ). c ++ x) e₂ ∙ sym (append_assoc c c₂ r₂))
      (λ t w. ap (λ (x : List ℕ). bind_p p f x) (append_assoc c c₂ t)
      ∙ ap (λ (o : Out A). then_out o f) (h (c₂ ++ t) (subst (λ (x : List ℕ). Follows x (c₂ ++ t)) (sym e₂) (follows-app c₂ r₂ t w))) ∙ h₂ t w)

  pub bind-answer : (s : List ℕ) → StrongPrefix p s → ((a : A) (r : List ℕ) → StrongPrefix (f a) r) → StrongPrefix (bind_p p f) s
  bind-answer s (cuts q) g = cuts (ap (λ (o : Out A). then_out o f) q)
  bind-answer s (faults k c r e h) g = faults k c r e (λ t. ap (λ (o : Out A). then_out o f) (h t))
  bind-answer s (dones a c r e h) g = bind-go s a c r e h (g a r)

pub ret-answer : {A : Type 0} (a : A) (s : List ℕ) → StrongPrefix (ret_p a) s
ret-answer a s = dones a [] s refl (λ t w. refl)

pub bad-answer : {A : Type 0} (k : ℕ) (s : List ℕ) → StrongPrefix (bad_p {A = A} k) s
bad-answer k s = faults k [] s refl (λ t. refl)

pub eat-answer : (s : List ℕ) → StrongPrefix eat_p s
eat-answer [] = cuts refl
eat-answer (b ∷ s) = dones b (b ∷ []) s refl (λ t w. refl)

span-go : (test : ℕ → Bool) (b : ℕ) (s : List ℕ) (v : Bool) → test b ≡ v → StrongPrefix (span_p test) s → StrongPrefix (span_p test) (b ∷ s)
span-go test b s false q g =
    dones [] [] (b ∷ s) refl (λ t w. ap (span_p test) w.1 ∙ ap (λ (v : Bool). cond v (then_out (span_p test w.0) (λ l. ret_p (b ∷ l))) (done [] (b ∷ w.0))) q
    ∙ ap (λ (l : List ℕ). done [] l) (sym w.1))
span-go test b s true q (cuts e) = cuts (rw (e, q))
span-go test b s true q (faults k c r e h) = faults k (b ∷ c) r (ap (λ (l : List ℕ). b ∷ l) e) (λ t. rw (h t, q))
span-go test b s true q (dones w c r e h) = dones (b ∷ w) (b ∷ c) r (ap (λ (l : List ℕ). b ∷ l) e) (λ t f. rw (h t f, q))

-- the law of `span`, from what it answers where the bytes have ended (`proofs/Answers`: `span-answer`)
pub span-law : (test : ℕ → Bool) → span_p test [] ≡ cut → (s : List ℕ) → StrongPrefix (span_p test) s
span-law test q [] = cuts q
span-law test q (b ∷ s) = span-go test b s (test b) refl (span-law test q s)

-- ---- the forms around one parser

module _ {A : Type 0} where
  strict-go : (p : Parser A) (s : List ℕ) (a : A) (c r : List ℕ) → s ≡ c ++ r → ((t : List ℕ) → Follows r t → p (c ++ t) ≡ done a t)
      → StrongPrefix (strict_p p) s
  strict-go p s a [] r e h =
      cuts (ap (λ (o : Out A). strict_out o s) (ap p e ∙ h r (follows-refl r)) ∙ ap (λ (v : Bool). cond v (done a r) cut) (le-ltb (length r) (length s) (omega (arith, ap length e))))
  strict-go p s a (x ∷ c) r e h = dones a (x ∷ c) r e (λ t w. ap (λ (o : Out A). strict_out o (x ∷ c ++ t)) (h t w)
      ∙ ap (λ (v : Bool). cond v (done a t) cut) (lt-ltb (length t) (suc (length (c ++ t))) (simp length-append (omega arith))))

  pub strict-answer : (p : Parser A) (s : List ℕ) → StrongPrefix p s → StrongPrefix (strict_p p) s
  strict-answer p s (cuts q) = cuts (ap (λ (o : Out A). strict_out o s) q)
  strict-answer p s (faults k c r e h) = faults k c r e (λ t. ap (λ (o : Out A). strict_out o (s ++ t)) (h t))
  strict-answer p s (dones a c r e h) = strict-go p s a c r e h

  strict-less-go : (o : Out A) (s : List ℕ) (a : A) (r : List ℕ) → strict_out o s ≡ done a r → length r < length s
  strict-less-go (done b u) s a r q = by-test (ltb (length u) (length s)) refl q
    where
      by-test : (v : Bool) → ltb (length u) (length s) ≡ v → cond v (done b u) cut ≡ done a r → length r < length s
      by-test true e z = let v : u ≡ r = cc in rw v at (ltb-true (length u) (length s) e)
      by-test false e z = nope cc
  strict-less-go (fault k u) s a r q = nope cc
  strict-less-go cut s a r q = nope cc

  -- what is strict and done has read a byte at least
  pub strict-less : (p : Parser A) (s : List ℕ) (a : A) (r : List ℕ) → strict_p p s ≡ done a r → length r < length s
  strict-less p s a r q = strict-less-go (p s) s a r q

  look-go : (f : ℕ → Parser A) (b : ℕ) (s : List ℕ) (a : A) (c r : List ℕ) → b ∷ s ≡ c ++ r → ((t : List ℕ) → Follows r t → f b (c ++ t) ≡ done a t)
      → (t : List ℕ) → Follows r t → look_p f (c ++ t) ≡ done a t
  look-go f b s a [] r e h t w = let v : Follows (b ∷ s) t = subst (λ (x : List ℕ). Follows x t) (sym e) w in ap (look_p f) v.1 ∙ ap (f b) (sym v.1) ∙ h t w
  look-go f b s a (x ∷ c) r e h t w = let q : x ≡ b = cc in ap (λ (y : ℕ). f y (x ∷ (c ++ t))) q ∙ h t w

  pub look-answer : (f : ℕ → Parser A) (s : List ℕ) → ((b : ℕ) (r : List ℕ) → StrongPrefix (f b) (b ∷ r)) → StrongPrefix (look_p f) s
  look-answer f [] g = cuts refl
  look-answer f (b ∷ s) g = look-cases (g b s)
    where
      look-cases : StrongPrefix (f b) (b ∷ s) → StrongPrefix (look_p f) (b ∷ s)
      look-cases (cuts q) = cuts q
      look-cases (faults k c r e h) = faults k c r e h
      look-cases (dones a c r e h) = dones a c r e (look-go f b s a c r e h)

  two-go : (f : ℕ → ℕ → Parser A) (b c : ℕ) (s : List ℕ) (a : A) (d r : List ℕ) → b ∷ c ∷ s ≡ d ++ r
      → ((t : List ℕ) → Follows r t → strict_p (f b c) (d ++ t) ≡ done a t) → (t : List ℕ) → Follows r t → look_two_p f (d ++ t) ≡ done a t
  two-go f b c s a [] r e h t w =
      let l : length t < length t = strict-less (f b c) t a t (h t w) in
      absurd (omega arith)
  two-go f b c s a (x ∷ []) r e h t w =
      let q : x ≡ b = cc in
      let z : r ≡ c ∷ s = cc in
      let v : Follows (c ∷ s) t = subst (λ (l : List ℕ). Follows l t) z w in
      ap (λ (l : List ℕ). look_two_p f (x ∷ l)) v.1 ∙ ap (λ (y : ℕ). strict_p (f y c) (x ∷ c ∷ v.0)) q ∙ ap (λ (l : List ℕ). strict_p (f b c) (x ∷ l)) (sym v.1) ∙ h t w
  two-go f b c s a (x ∷ y ∷ d) r e h t w =
      let q : x ≡ b = cc in
      let z : y ≡ c = cc in
      ap (λ (n : ℕ). strict_p (f n y) (x ∷ y ∷ (d ++ t))) q ∙ ap (λ (n : ℕ). strict_p (f b n) (x ∷ y ∷ (d ++ t))) z ∙ h t w

  -- the law of `look_two`, from what it answers where there is one byte alone (`proofs/Answers`: `look_two-answer`)
  pub look_two-law : (f : ℕ → ℕ → Parser A) → ((b : ℕ) → look_two_p f (b ∷ []) ≡ cut) → (s : List ℕ)
      → ((b c : ℕ) (r : List ℕ) → StrongPrefix (f b c) (b ∷ c ∷ r)) → StrongPrefix (look_two_p f) s
  look_two-law f q [] g = cuts refl
  look_two-law f q (b ∷ []) g = cuts (q b)
  look_two-law f q (b ∷ c ∷ s) g = two_cases (strict-answer (f b c) (b ∷ c ∷ s) (g b c s))
    where
      two_cases : StrongPrefix (strict_p (f b c)) (b ∷ c ∷ s) → StrongPrefix (look_two_p f) (b ∷ c ∷ s)
      two_cases (cuts q) = cuts q
      two_cases (faults k d r e h) = faults k d r e h
      two_cases (dones a d r e h) = dones a d r e (two-go f b c s a d r e h)

  judge-go : (j : A → ℕ) (p : Parser A) (s : List ℕ) (a : A) (c r : List ℕ) → s ≡ c ++ r → ((t : List ℕ) → Follows r t → p (c ++ t) ≡ done a t)
      → (n : ℕ) → j a ≡ n → StrongPrefix (judge_p j p) s
  judge-go j p s a c r e h zero q = dones a c r e (λ t w. cc (h t w))
  judge-go j p s a c r e h (suc k) q = faults (suc k) [] s refl (λ t. ap (λ (o : Out A). judge_out j o (s ++ t)) (ap p (seam s c r t e) ∙ h (r ++ t) (follows-self r t))
      ∙ ap (λ (n : ℕ). judged_to n a (r ++ t) (s ++ t)) q)

  pub judge-answer : (j : A → ℕ) (p : Parser A) (s : List ℕ) → StrongPrefix p s → StrongPrefix (judge_p j p) s
  judge-answer j p s (cuts q) = cuts (ap (λ (o : Out A). judge_out j o s) q)
  judge-answer j p s (faults k c r e h) = faults k c r e (λ t. ap (λ (o : Out A). judge_out j o (s ++ t)) (h t))
  judge-answer j p s (dones a c r e h) = judge-go j p s a c r e h (j a) refl

  settle-fault-go : (v : ℕ) (p : Parser A) (s : List ℕ) (k : ℕ) (c r : List ℕ) → s ≡ c ++ r → ((t : List ℕ) → p (s ++ t) ≡ fault k (r ++ t)) → StrongPrefix (settle_p (suc v) p) s
  settle-fault-go v p s k [] r e h =
      faults (min (suc v) k) [] s refl (λ t. ap (λ (o : Out A). settle_out (suc v) o (s ++ t)) (h t)
      ∙ ap (λ (b : Bool). cond b (fault (min (suc v) k) (s ++ t)) (fault (suc v) (s ++ t)))
      (eq-eqb (length (r ++ t)) (length (s ++ t)) (ap (λ (x : List ℕ). length (x ++ t)) (sym e))))
  settle-fault-go v p s k (x ∷ c) r e h =
      faults (suc v) [] s refl (λ t. ap (λ (o : Out A). settle_out (suc v) o (s ++ t)) (h t)
      ∙ ap (λ (b : Bool). cond b (fault (min (suc v) k) (s ++ t)) (fault (suc v) (s ++ t)))
      (ne_eqb (length (r ++ t)) (length (s ++ t)) (λ q. omega (arith, length-append r t, length-append s t, length-append c r, ap length e))))

  pub settle-answer : (v : ℕ) (p : Parser A) (s : List ℕ) → StrongPrefix p s → StrongPrefix (settle_p v p) s
  settle-answer v p s (cuts q) = cuts (ap (λ (o : Out A). settle_out v o s) q)
  settle-answer zero p s (faults k c r e h) = faults k c r e (λ t. ap (λ (o : Out A). settle_out 0 o (s ++ t)) (h t))
  settle-answer (suc v) p s (faults k c r e h) = settle-fault-go v p s k c r e h
  settle-answer zero p s (dones a c r e h) = dones a c r e (λ t w. ap (λ (o : Out A). settle_out 0 o (c ++ t)) (h t w))
  settle-answer (suc v) p s (dones a c r e h) =
      faults (suc v) [] s refl (λ t. ap (λ (o : Out A). settle_out (suc v) o (s ++ t)) (ap p (seam s c r t e) ∙ h (r ++ t) (follows-self r t)))

  pub blame-answer : (p : Parser A) (s : List ℕ) → StrongPrefix p s → StrongPrefix (blame_p p) s
  blame-answer p s (cuts q) = cuts (ap (λ (o : Out A). blame_out o s) q)
  blame-answer p s (faults k c r e h) = faults k [] s refl (λ t. ap (λ (o : Out A). blame_out o (s ++ t)) (h t))
  blame-answer p s (dones a c r e h) = dones a c r e (λ t w. ap (λ (o : Out A). blame_out o (c ++ t)) (h t w))

  pub kept-answer : (p : Parser A) (s : List ℕ) → StrongPrefix p s → StrongPrefix (kept_p p) s
  kept-answer p s (cuts q) = cuts (ap (λ (o : Out A). kept_out o s) q)
  kept-answer p s (faults k c r e h) = faults k c r e (λ t. ap (λ (o : Out A). kept_out o (s ++ t)) (h t))
  kept-answer p s (dones a c r e h) = dones (a, c) c r e (λ t w. ap (λ (o : Out A). kept_out o (c ++ t)) (h t w) ∙ ap (λ (x : List ℕ). done (a, x) t) (before-app c t))

-- ---- loops

module _ {S B : Type 0} (f : S → Parser (Turn S B)) where
  -- more fuel than bytes changes nothing
  fuel-turn : (n m : ℕ) → ((st : S) (r : List ℕ) → length r < n → length r < m → loop_f f n st r ≡ loop_f f m st r)
      → (s : List ℕ) → length s ≤ n → length s ≤ m → (o : Out (Turn S B)) → turn_out (λ (st : S). loop_f f n st) o s ≡ turn_out (λ (st : S). loop_f f m st) o s
  fuel-turn n m ih s h k (done (last b) r) = refl
  fuel-turn n m ih s h k (done (again st) r) = by (ltb (length r) (length s)) refl
    where
      by : (v : Bool) → ltb (length r) (length s) ≡ v → cond v (loop_f f n st r) cut ≡ cond v (loop_f f m st r) cut
      by true q = let l : length r < length s = ltb-true (length r) (length s) q in ih st r (omega arith) (omega arith)
      by false q = refl
  fuel-turn n m ih s h k (fault j r) = refl
  fuel-turn n m ih s h k cut = refl

  fuel : (n m : ℕ) (st : S) (s : List ℕ) → length s < n → length s < m → loop_f f n st s ≡ loop_f f m st s
  fuel zero m st s h k = absurd (omega arith)
  fuel (suc n) zero st s h k = absurd (omega arith)
  fuel (suc n) (suc m) st s h k = fuel-turn n m (fuel n m) s (omega arith) (omega arith) (f st s)

  -- a loop is its first turn, and then the loop from there
  pub loop-step : (st : S) (s : List ℕ) → loop_p f st s ≡ turn_out (loop_p f) (f st s) s
  unfolding loop_p
  loop-step st s = go (f st s)
    where
      go : (o : Out (Turn S B)) → turn_out (λ (st' : S). loop_f f (length s) st') o s ≡ turn_out (loop_p f) o s
      go (done (last b) r) = refl
      go (done (again st') r) = by (ltb (length r) (length s)) refl
        where
          by : (v : Bool) → ltb (length r) (length s) ≡ v → cond v (loop_f f (length s) st' r) cut ≡ cond v (loop_p f st' r) cut
          by true q = let l : length r < length s = ltb-true (length r) (length s) q in fuel (length s) (suc (length r)) st' r l (omega arith)
          by false q = refl
      go (fault k r) = refl
      go cut = refl

  pub loop-again : (st : S) (s : List ℕ) (st' : S) (r : List ℕ) → f st s ≡ done (again st') r → length r < length s → loop_p f st s ≡ loop_p f st' r
  loop-again st s st' r q l =
      loop-step st s ∙ ap (λ (o : Out (Turn S B)). turn_out (loop_p f) o s) q ∙ ap (λ (v : Bool). cond v (loop_p f st' r) cut) (lt-ltb (length r) (length s) l)

  pub loop-last : (st : S) (s : List ℕ) (b : B) (r : List ℕ) → f st s ≡ done (last b) r → loop_p f st s ≡ done b r
  loop-last st s b r q = loop-step st s ∙ ap (λ (o : Out (Turn S B)). turn_out (loop_p f) o s) q

  pub loop-fault : (st : S) (s : List ℕ) (k : ℕ) (r : List ℕ) → f st s ≡ fault k r → loop_p f st s ≡ fault k r
  loop-fault st s k r q = loop-step st s ∙ ap (λ (o : Out (Turn S B)). turn_out (loop_p f) o s) q

  pub loop-cut : (st : S) (s : List ℕ) → f st s ≡ cut → loop_p f st s ≡ cut
  loop-cut st s q = loop-step st s ∙ ap (λ (o : Out (Turn S B)). turn_out (loop_p f) o s) q

  -- ---- how far a loop came: the same laws of its last state

  state-fuel-turn : (n m : ℕ) → ((st : S) (r : List ℕ) → length r < n → length r < m → state_f f n st r ≡ state_f f m st r)
      → (st : S) (s : List ℕ) → length s ≤ n → length s ≤ m → (o : Out (Turn S B)) → state_out (λ (v : S). state_f f n v) st o s ≡ state_out (λ (v : S). state_f f m v) st o s
  state-fuel-turn n m ih st s h k (done (last b) r) = refl
  state-fuel-turn n m ih st s h k (done (again st') r) = by (ltb (length r) (length s)) refl
    where
      by : (v : Bool) → ltb (length r) (length s) ≡ v → cond v (state_f f n st' r) st ≡ cond v (state_f f m st' r) st
      by true q = let l : length r < length s = ltb-true (length r) (length s) q in ih st' r (omega arith) (omega arith)
      by false q = refl
  state-fuel-turn n m ih st s h k (fault j r) = refl
  state-fuel-turn n m ih st s h k cut = refl

  state-fuel : (n m : ℕ) (st : S) (s : List ℕ) → length s < n → length s < m → state_f f n st s ≡ state_f f m st s
  state-fuel zero m st s h k = absurd (omega arith)
  state-fuel (suc n) zero st s h k = absurd (omega arith)
  state-fuel (suc n) (suc m) st s h k = state-fuel-turn n m (λ v r. state-fuel n m v r) st s (omega arith) (omega arith) (f st s)

  pub state-step : (st : S) (s : List ℕ) → loop_state f st s ≡ state_out (loop_state f) st (f st s) s
  unfolding loop_state
  state-step st s = go (f st s)
    where
      go : (o : Out (Turn S B)) → state_out (λ (v : S). state_f f (length s) v) st o s ≡ state_out (loop_state f) st o s
      go (done (last b) r) = refl
      go (done (again st') r) = by (ltb (length r) (length s)) refl
        where
          by : (v : Bool) → ltb (length r) (length s) ≡ v → cond v (state_f f (length s) st' r) st ≡ cond v (loop_state f st' r) st
          by true q = let l : length r < length s = ltb-true (length r) (length s) q in state-fuel (length s) (suc (length r)) st' r l (omega arith)
          by false q = refl
      go (fault k r) = refl
      go cut = refl

  pub state-again : (st : S) (s : List ℕ) (st' : S) (r : List ℕ) → f st s ≡ done (again st') r → length r < length s → loop_state f st s ≡ loop_state f st' r
  state-again st s st' r q l =
      state-step st s ∙ ap (λ (o : Out (Turn S B)). state_out (loop_state f) st o s) q ∙ ap (λ (v : Bool). cond v (loop_state f st' r) st) (lt-ltb (length r) (length s) l)

  pub state-last : (st : S) (s : List ℕ) (b : B) (r : List ℕ) → f st s ≡ done (last b) r → loop_state f st s ≡ st
  state-last st s b r q = state-step st s ∙ ap (λ (o : Out (Turn S B)). state_out (loop_state f) st o s) q

  pub state-fault : (st : S) (s : List ℕ) (k : ℕ) (r : List ℕ) → f st s ≡ fault k r → loop_state f st s ≡ st
  state-fault st s k r q = state-step st s ∙ ap (λ (o : Out (Turn S B)). state_out (loop_state f) st o s) q

  pub state-cut : (st : S) (s : List ℕ) → f st s ≡ cut → loop_state f st s ≡ st
  state-cut st s q = state-step st s ∙ ap (λ (o : Out (Turn S B)). state_out (loop_state f) st o s) q

  -- a turn that goes on without reading a byte ends the loop as if cut
  loop-stuck : (st : S) (s : List ℕ) (st' : S) (r : List ℕ) → f st s ≡ done (again st') r → length s ≤ length r → loop_p f st s ≡ cut
  loop-stuck st s st' r q l =
      loop-step st s ∙ ap (λ (o : Out (Turn S B)). turn_out (loop_p f) o s) q ∙ ap (λ (v : Bool). cond v (loop_p f st' r) cut) (le-ltb (length r) (length s) l)

  module _ (s : List ℕ) (st : S) (st' : S) (x : ℕ) (c r : List ℕ) (e : s ≡ x ∷ c ++ r) (h : (t : List ℕ) → Follows r t → f st (x ∷ c ++ t) ≡ done (again st') t) where
    on : (t : List ℕ) → Follows r t → loop_p f st (x ∷ c ++ t) ≡ loop_p f st' t
    on t w = loop-again st (x ∷ c ++ t) st' t (h t w) (simp length-append (omega arith))

    loop-go : StrongPrefix (loop_p f st') r → StrongPrefix (loop_p f st) s
    loop-go (cuts q) = cuts (ap (loop_p f st) e ∙ on r (follows-refl r) ∙ q)
    loop-go (faults k c₂ r₂ e₂ h₂) =
        faults k ((x ∷ c) ++ c₂) r₂ (e ∙ ap (λ (l : List ℕ). x ∷ c ++ l) e₂ ∙ sym (append_assoc (x ∷ c) c₂ r₂))
        (λ t. ap (loop_p f st) (seam s (x ∷ c) r t e) ∙ on (r ++ t) (follows-self r t) ∙ h₂ t)
    loop-go (dones b c₂ r₂ e₂ h₂) =
        dones b ((x ∷ c) ++ c₂) r₂ (e ∙ ap (λ (l : List ℕ). x ∷ c ++ l) e₂ ∙ sym (append_assoc (x ∷ c) c₂ r₂))
        (λ t w. ap (loop_p f st) (append_assoc (x ∷ c) c₂ t)
        ∙ on (c₂ ++ t) (subst (λ (l : List ℕ). Follows l (c₂ ++ t)) (sym e₂) (follows-app c₂ r₂ t w)) ∙ h₂ t w)

  loop-by : (n : ℕ) → ((st : S) (s : List ℕ) → length s < n → StrongPrefix (loop_p f st) s) → (st : S) (s : List ℕ) → length s ≤ n → StrongPrefix (f st) s → StrongPrefix (loop_p f st) s
  loop-by n ih st s l (cuts q) = cuts (loop-cut st s q)
  loop-by n ih st s l (faults k c r e h) = faults k c r e (λ t. loop-fault st (s ++ t) k (r ++ t) (h t))
  loop-by n ih st s l (dones (last b) c r e h) = dones b c r e (λ t w. loop-last st (c ++ t) b t (h t w))
  loop-by n ih st s l (dones (again st') [] r e h) =
      cuts (loop-stuck st s st' r (ap (f st) e ∙ h r (follows-refl r)) (omega (arith, ap length e)))
  loop-by n ih st s l (dones (again st') (x ∷ c) r e h) =
      loop-go s st st' x c r e h (ih st' r (omega (arith, ap length e, length-append c r)))

  loop-all : ((st : S) (s : List ℕ) → StrongPrefix (f st) s) → (n : ℕ) (st : S) (s : List ℕ) → length s < n → StrongPrefix (loop_p f st) s
  loop-all g zero st s h = absurd (omega arith)
  loop-all g (suc n) st s h = loop-by n (loop-all g n) st s (omega arith) (g st s)

  pub loop-answer : ((st : S) (s : List ℕ) → StrongPrefix (f st) s) → (st : S) (s : List ℕ) → StrongPrefix (loop_p f st) s
  loop-answer g st s = loop-all g (suc (length s)) st s (omega arith)
