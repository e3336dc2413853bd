-- The law put to use: answers stay as bytes are appended; items turn by turn; other bytes in the place of one item's.
use Rattle.std.specs.Prelude.{◌≡◌, refl, List, [], ◌∷◌, ◌++◌, Bool, true, false, cond, ℕ, zero, suc, ◌≤◌, ◌<◌, length, ltb}
use Rattle.std.proofs.Common.{sym, ap, ◌∙◌, subst, append_assoc, append-nil, arith, length-append, lt-ltb}
use Rattle.grammar.specs.Parse.{Out, done, fault, cut, Parser, Turn, again, last, then_out, bind_p, ret_p, kept_out, kept_p, strict_out, strict_p, loop_p}
use Rattle.grammar.specs.Laws.{nope, Follows, follows-self, follows-refl, follows-app, StrongPrefix, cuts, faults, dones, before-app, strict-less, loop-again}
use Rattle.grammar.specs.Laws.{loop-last, loop-fault, loop-cut}
use Rattle.grammar.specs.Grammar.{G, added, one_item, items}

-- ---- the law by an answer

module _ {A : Type 0} (p : Parser A) where
  pub done-law : (s : List ℕ) (a : A) (r : List ℕ) → StrongPrefix p s → p s ≡ done a r
      → (c : List ℕ) × (s ≡ c ++ r) × ((t : List ℕ) → Follows r t → p (c ++ t) ≡ done a t)
  done-law s a r (cuts q) e = nope cc
  done-law s a r (faults k c u w h) e = nope (cc (append-nil s, h []))
  done-law s a r (dones b c u w h) e =
      let g : p (c ++ u) ≡ done b u = h u (follows-refl u) in
      let x : b ≡ a = cc in
      let y : u ≡ r = cc in
      (c, w ∙ ap (λ (z : List ℕ). c ++ z) y, λ t v. h t (subst (λ (z : List ℕ). Follows z t) (sym y) v) ∙ ap (λ (z : A). done z t) x)

  pub fault-law : (s : List ℕ) (k : ℕ) (r : List ℕ) → StrongPrefix p s → p s ≡ fault k r
      → (c : List ℕ) × (s ≡ c ++ r) × ((t : List ℕ) → p (s ++ t) ≡ fault k (r ++ t))
  fault-law s k r (cuts q) e = nope cc
  fault-law s k r (faults j c u w h) e =
      let g : p s ≡ fault j u = ap p (sym (append-nil s)) ∙ h [] ∙ ap (λ (z : List ℕ). fault j z) (append-nil u) in
      let x : j ≡ k = cc in
      let y : u ≡ r = cc in
      (c, w ∙ ap (λ (z : List ℕ). c ++ z) y, λ t. h t ∙ cc)
  fault-law s k r (dones b c u w h) e = let g : p (c ++ u) ≡ done b u = h u (follows-refl u) in nope cc

  -- an answer that is not `cut` stays as bytes are appended
  pub stable-done : (s : List ℕ) (a : A) (r t : List ℕ) → StrongPrefix p s → p s ≡ done a r → p (s ++ t) ≡ done a (r ++ t)
  stable-done s a r t g q =
      let k : (c : List ℕ) × (s ≡ c ++ r) × ((u : List ℕ) → Follows r u → p (c ++ u) ≡ done a u) = done-law s a r g q in
      ap (λ (l : List ℕ). p (l ++ t)) k.1 ∙ ap p (append_assoc k.0 r t) ∙ k.2 (r ++ t) (follows-self r t)

  pub stable-fault : (s : List ℕ) (k : ℕ) (r t : List ℕ) → StrongPrefix p s → p s ≡ fault k r → p (s ++ t) ≡ fault k (r ++ t)
  stable-fault s k r t g q = (fault-law s k r g q).2 t

  pub kept-law : (s : List ℕ) (x : A × List ℕ) (r : List ℕ) → StrongPrefix p s → kept_p p s ≡ done x r
      → (s ≡ x.1 ++ r) × ((t : List ℕ) → Follows r t → p (x.1 ++ t) ≡ done x.0 t)
  kept-law s x r (cuts q) e = let z : kept_p p s ≡ cut = ap (λ (o : Out A). kept_out o s) q in nope cc
  kept-law s x r (faults k c u w h) e =
      let z : kept_p p s ≡ fault k u = ap (λ (o : Out A). kept_out o s) (ap p (sym (append-nil s)) ∙ h [] ∙ ap (λ (y : List ℕ). fault k y) (append-nil u)) in
      nope cc
  kept-law s x r (dones b c u w h) e =
      let z : kept_p p s ≡ done (b, c) u =
      ap (kept_p p) w ∙ ap (λ (o : Out A). kept_out o (c ++ u)) (h u (follows-refl u)) ∙ ap (λ (y : List ℕ). done (b, y) u) (before-app c u) in
      let v : ◌≡◌ {A = A × List ℕ} (b, c) x = cc in
      let x₀ : b ≡ x.0 = ap (λ (l : A × List ℕ). l.0) v in
      let x₁ : c ≡ x.1 = ap (λ (l : A × List ℕ). l.1) v in
      let y : u ≡ r = cc in
      (w ∙ cc, λ t v. ap (λ (l : List ℕ). p (l ++ t)) (sym x₁) ∙ h t (subst (λ (l : List ℕ). Follows l t) (sym y) v) ∙ ap (λ (l : A). done l t) x₀)

  pub strict-done : (s : List ℕ) (a : A) (r : List ℕ) → p s ≡ done a r → length r < length s → strict_p p s ≡ done a r
  strict-done s a r q l = ap (λ (o : Out A). strict_out o s) q ∙ ap (λ (v : Bool). cond v (done a r) cut) (lt-ltb (length r) (length s) l)

  strict-inv-go : (o : Out A) (s : List ℕ) (a : A) (r : List ℕ) → strict_out o s ≡ done a r → o ≡ done a r
  strict-inv-go (done b u) s a r q = by-test (ltb (length u) (length s)) q
    where
      by-test : (v : Bool) → cond v (done b u) cut ≡ done a r → done b u ≡ done a r
      by-test true z = z
      by-test false z = nope cc
  strict-inv-go (fault k u) s a r q = nope cc
  strict-inv-go cut s a r q = nope cc

  pub strict-inv : (s : List ℕ) (a : A) (r : List ℕ) → strict_p p s ≡ done a r → p s ≡ done a r
  strict-inv s a r q = strict-inv-go (p s) s a r q

  pub kept-done : (c : List ℕ) (a : A) (t : List ℕ) → p (c ++ t) ≡ done a t → kept_p p (c ++ t) ≡ done (a, c) t
  kept-done c a t q = ap (λ (o : Out A). kept_out o (c ++ t)) q ∙ ap (λ (y : List ℕ). done (a, y) t) (before-app c t)

pub bind_inv : {A B : Type 0} (p : Parser A) (f : A → Parser B) (s : List ℕ) (b : B) (r : List ℕ) → bind_p p f s ≡ done b r
    → (a : A) × (u : List ℕ) × (p s ≡ done a u) × (f a u ≡ done b r)
bind_inv {A} p f s b r e = go (p s) refl e
  where
    go : (o : Out A) → p s ≡ o → then_out o f ≡ done b r → (a : A) × (u : List ℕ) × (p s ≡ done a u) × (f a u ≡ done b r)
    go (done a u) q z = (a, u, q, z)
    go (fault k u) q z = nope cc
    go cut q z = nope cc

some-not-none : {X A : Type 0} (bs : List A) (x : A) (xs : List A) → bs ++ x ∷ xs ≡ [] → X
some-not-none [] x xs e = nope cc
some-not-none (b ∷ bs) x xs e = nope cc

-- c is not empty, whatever stands after it
longer : (c u t : List ℕ) → length u < length (c ++ u) → length t < length (c ++ t)
longer c u t h = omega (arith, length-append c u, length-append c t)

-- ---- items, turn by turn

-- the bytes of all items
abbrev pub flat : {A : Type 0} → List (A × List ℕ) → List ℕ
flat [] = []
flat (x ∷ l) = x.1 ++ flat l

module _ {S A : Type 0} (item : S → G A) (next : S → A → Turn S (Unit {0})) where
  -- the items
  abbrev pub turns : S → Parser (List (A × List ℕ))
  turns st = (items item next st).run

  -- the items after those of a list
  abbrev pub items_after : List (A × List ℕ) → S → Parser (List (A × List ℕ))
  items_after l st = loop_p (λ v. (one_item item next v).run) (st, l)

  -- what one turn does
  abbrev pub turn_item : S → Parser (A × List ℕ)
  turn_item st = strict_p (kept_p (item st).run)

  abbrev front : List (A × List ℕ) → Out (List (A × List ℕ)) → Out (List (A × List ℕ))
  front l o = then_out o (λ m. ret_p (l ++ m))

  front-twice : (l m : List (A × List ℕ)) (o : Out (List (A × List ℕ))) → front l (front m o) ≡ front (l ++ m) o
  front-twice l m (done a r) = ap (λ (x : List (A × List ℕ)). done x r) (sym (append_assoc l m a))
  front-twice l m (fault k r) = refl
  front-twice l m cut = refl

  turn-of : (l : List (A × List ℕ)) (st : S) (s : List ℕ) (x : A × List ℕ) (r : List ℕ) → turn_item st s ≡ done x r
      → (one_item item next (st, l)).run s ≡ done (added l x (next st x.0)) r
  turn-of l st s x r q = ap (λ (o : Out (A × List ℕ)). then_out o (λ y. ret_p (added l y (next st y.0)))) q

  pub items-again : (l : List (A × List ℕ)) (st : S) (s : List ℕ) (x : A × List ℕ) (r : List ℕ) (st' : S) → turn_item st s ≡ done x r → next st x.0 ≡ again st'
      → items_after l st s ≡ items_after (l ++ x ∷ []) st' r
  items-again l st s x r st' q n =
      loop-again (λ v. (one_item item next v).run) (st, l) s (st', l ++ x ∷ []) r (turn-of l st s x r q ∙ ap (λ (y : Turn S (Unit {0})). done (added l x y) r) n)
      (strict-less (kept_p (item st).run) s x r q)

  pub items-last : (l : List (A × List ℕ)) (st : S) (s : List ℕ) (x : A × List ℕ) (r : List ℕ) (u : Unit {0}) → turn_item st s ≡ done x r → next st x.0 ≡ last u
      → items_after l st s ≡ done (l ++ x ∷ []) r
  items-last l st s x r u q n =
      loop-last (λ v. (one_item item next v).run) (st, l) s (l ++ x ∷ []) r (turn-of l st s x r q ∙ ap (λ (y : Turn S (Unit {0})). done (added l x y) r) n)

  pub items-fault : (l : List (A × List ℕ)) (st : S) (s : List ℕ) (k : ℕ) (r : List ℕ) → turn_item st s ≡ fault k r → items_after l st s ≡ fault k r
  items-fault l st s k r q =
      loop-fault (λ v. (one_item item next v).run) (st, l) s k r (ap (λ (o : Out (A × List ℕ)). then_out o (λ y. ret_p (added l y (next st y.0)))) q)

  pub items-cut : (l : List (A × List ℕ)) (st : S) (s : List ℕ) → turn_item st s ≡ cut → items_after l st s ≡ cut
  items-cut l st s q =
      loop-cut (λ v. (one_item item next v).run) (st, l) s (ap (λ (o : Out (A × List ℕ)). then_out o (λ y. ret_p (added l y (next st y.0)))) q)

  -- items after others are the same items, with the others in front
  front-next : (n : ℕ) → ((l : List (A × List ℕ)) (st : S) (r : List ℕ) → length r < n → items_after l st r ≡ front l (items_after [] st r))
      → (l : List (A × List ℕ)) (st : S) (s : List ℕ) → length s ≤ n → (x : A × List ℕ) (r : List ℕ) → turn_item st s ≡ done x r
      → (y : Turn S (Unit {0})) → next st x.0 ≡ y → items_after l st s ≡ front l (items_after [] st s)
  front-next n ih l st s h x r q (last u) m = items-last l st s x r u q m ∙ sym (ap (front l) (items-last [] st s x r u q m))
  front-next n ih l st s h x r q (again st') m =
      let k : length r < length s = strict-less (kept_p (item st).run) s x r q in
      items-again l st s x r st' q m ∙ ih (l ++ x ∷ []) st' r (omega arith)
      ∙ sym (ap (front l) (items-again [] st s x r st' q m ∙ ih (x ∷ []) st' r (omega arith)) ∙ front-twice l (x ∷ []) (items_after [] st' r))

  front_out : (n : ℕ) → ((l : List (A × List ℕ)) (st : S) (r : List ℕ) → length r < n → items_after l st r ≡ front l (items_after [] st r))
      → (l : List (A × List ℕ)) (st : S) (s : List ℕ) → length s ≤ n → (o : Out (A × List ℕ)) → turn_item st s ≡ o → items_after l st s ≡ front l (items_after [] st s)
  front_out n ih l st s h (done x r) q = front-next n ih l st s h x r q (next st x.0) refl
  front_out n ih l st s h (fault k r) q = items-fault l st s k r q ∙ sym (ap (front l) (items-fault [] st s k r q))
  front_out n ih l st s h cut q = items-cut l st s q ∙ sym (ap (front l) (items-cut [] st s q))

  after-front-go : (n : ℕ) (l : List (A × List ℕ)) (st : S) (s : List ℕ) → length s < n → items_after l st s ≡ front l (items_after [] st s)
  after-front-go zero l st s h = absurd (omega arith)
  after-front-go (suc n) l st s h = front_out n (after-front-go n) l st s (omega arith) (turn_item st s) refl

  pub after_front : (l : List (A × List ℕ)) (st : S) (s : List ℕ) → items_after l st s ≡ front l (turns st s)
  after_front l st s = after-front-go (suc (length s)) l st s (omega arith)

  -- one turn, by its item
  pub turns-again : (st : S) (s : List ℕ) (x : A × List ℕ) (r : List ℕ) (st' : S) → kept_p (item st).run s ≡ done x r → length r < length s → next st x.0 ≡ again st'
      → turns st s ≡ then_out (turns st' r) (λ l. ret_p (x ∷ l))
  turns-again st s x r st' q h n =
      items-again [] st s x r st' (strict-done (kept_p (item st).run) s x r q h) n ∙ after_front (x ∷ []) st' r

  pub turns-last : (st : S) (s : List ℕ) (x : A × List ℕ) (r : List ℕ) (u : Unit {0}) → kept_p (item st).run s ≡ done x r → length r < length s → next st x.0 ≡ last u
      → turns st s ≡ done (x ∷ []) r
  turns-last st s x r u q h n = items-last [] st s x r u (strict-done (kept_p (item st).run) s x r q h) n

  pub turns-fault : (st : S) (s : List ℕ) (k : ℕ) (r : List ℕ) → (item st).run s ≡ fault k r → turns st s ≡ fault k r
  turns-fault st s k r q = items-fault [] st s k r (ap (λ (o : Out A). strict_out (kept_out o s) s) q)

  pub turns-cut : (st : S) (s : List ℕ) → (item st).run s ≡ cut → turns st s ≡ cut
  turns-cut st s q = items-cut [] st s (ap (λ (o : Out A). strict_out (kept_out o s) s) q)

  -- the first item of items that are done
  pub data First (st : S) (s : List ℕ) (xs : List (A × List ℕ)) (r : List ℕ) : Type 0 where
    ended : (a : A × List ℕ) (u : Unit {0}) → kept_p (item st).run s ≡ done a r → length r < length s → next st a.0 ≡ last u → xs ≡ a ∷ [] → First st s xs r
    went : (a : A × List ℕ) (l : List (A × List ℕ)) (st' : S) (u : List ℕ) → kept_p (item st).run s ≡ done a u → length u < length s → next st a.0 ≡ again st'
        → turns st' u ≡ done l r → xs ≡ a ∷ l → First st s xs r

  first_rest : (st : S) (s : List ℕ) (xs : List (A × List ℕ)) (r : List ℕ) (a : A × List ℕ) (u : List ℕ) → kept_p (item st).run s ≡ done a u → length u < length s
      → (st' : S) → next st a.0 ≡ again st' → (o : Out (List (A × List ℕ))) → turns st' u ≡ o → then_out o (λ l. ret_p (a ∷ l)) ≡ done xs r → First st s xs r
  first_rest st s xs r a u q h st' n (done l v) w z = went a l st' u q h n (w ∙ cc) cc
  first_rest st s xs r a u q h st' n (fault k v) w z = nope cc
  first_rest st s xs r a u q h st' n cut w z = nope cc

  first_next : (st : S) (s : List ℕ) (xs : List (A × List ℕ)) (r : List ℕ) (a : A × List ℕ) (u : List ℕ) → kept_p (item st).run s ≡ done a u → length u < length s
      → turns st s ≡ done xs r → (x : Turn S (Unit {0})) → next st a.0 ≡ x → First st s xs r
  first_next st s xs r a u q h e (last v) n =
      let z : done (a ∷ []) u ≡ done xs r = sym (turns-last st s a u v q h n) ∙ e in
      let y : u ≡ r = cc in
      ended a v (q ∙ cc) (subst (λ (w : List ℕ). length w < length s) y h) n cc
  first_next st s xs r a u q h e (again st') n = first_rest st s xs r a u q h st' n (turns st' u) refl (sym (turns-again st s a u st' q h n) ∙ e)

  first_out : (st : S) (s : List ℕ) (xs : List (A × List ℕ)) (r : List ℕ) → turns st s ≡ done xs r → (o : Out (A × List ℕ)) → turn_item st s ≡ o → First st s xs r
  first_out st s xs r e (done a u) q =
      first_next st s xs r a u (strict-inv (kept_p (item st).run) s a u q) (strict-less (kept_p (item st).run) s a u q) e (next st a.0) refl
  first_out st s xs r e (fault k u) q = let z : turns st s ≡ fault k u = items-fault [] st s k u q in nope cc
  first_out st s xs r e cut q = let z : turns st s ≡ cut = items-cut [] st s q in nope cc

  pub turns-inv : (st : S) (s : List ℕ) (xs : List (A × List ℕ)) (r : List ℕ) → turns st s ≡ done xs r → First st s xs r
  turns-inv st s xs r e = first_out st s xs r e (turn_item st s) refl

  -- what was read is the bytes of the items
  pub turns-flat : (ps : List (A × List ℕ)) (st : S) (s r : List ℕ) → turns st s ≡ done ps r → s ≡ flat ps ++ r
  turns-flat [] st s r e = nil (turns-inv st s [] r e)
    where
      nil : First st s [] r → s ≡ r
      nil (ended a v q h n z) = nope cc
      nil (went a l st' u q h n w z) = nope cc
  turns-flat (x ∷ ps) st s r e = one (turns-flat ps) (turns-inv st s (x ∷ ps) r e)
    where
      one : ((st : S) (s r : List ℕ) → turns st s ≡ done ps r → s ≡ flat ps ++ r) → First st s (x ∷ ps) r → s ≡ (x.1 ++ flat ps) ++ r
      one ih (ended a v q h n z) =
          let k : s ≡ a.1 ++ r = (kept-law (item st).run s a r ((item st).law s) q).0 in
          let y : a ≡ x = cc in
          let y₂ : ps ≡ [] = cc in
          k ∙ ap (λ (c : A × List ℕ). c.1 ++ r) y ∙ ap (λ (c : List ℕ). c ++ r) (sym (append-nil x.1)) ∙ ap (λ (c : List (A × List ℕ)). (x.1 ++ flat c) ++ r) (sym y₂)
      one ih (went a l st' u q h n w z) =
          let k : s ≡ a.1 ++ u = (kept-law (item st).run s a u ((item st).law s) q).0 in
          let y : a ≡ x = cc in
          let y₂ : l ≡ ps = cc in
          k ∙ ap (λ (c : A × List ℕ). c.1 ++ u) y ∙ ap (λ (c : List ℕ). x.1 ++ c) (ih st' u r (w ∙ ap (λ (c : List (A × List ℕ)). done c r) y₂)) ∙ sym (append_assoc x.1 (flat ps) r)

  -- the item x stands in some state v at u, after the items of bs; up to there nothing depends on what stands there but for u's first byte
  pub record Standing (bs : List (A × List ℕ)) (x : A × List ℕ) (xs : List (A × List ℕ)) (st : S) (s r : List ℕ) : Type 0 where
    pub v : S
    pub u : List ℕ
    pub file : s ≡ flat bs ++ u
    pub rest : turns v u ≡ done (x ∷ xs) r
    pub same : (t : List ℕ) → Follows u t → turns st (flat bs ++ t) ≡ then_out (turns v t) (λ l. ret_p (bs ++ l))

  pub turns_at : (bs : List (A × List ℕ)) (x : A × List ℕ) (xs : List (A × List ℕ)) (st : S) (s r : List ℕ) → turns st s ≡ done (bs ++ x ∷ xs) r → Standing bs x xs st s r
  turns_at [] x xs st s r e = record { v = st; u = s; file = refl; rest = e; same = λ t w. nothing (turns st t) }
    where
      nothing : (o : Out (List (A × List ℕ))) → o ≡ then_out o (λ l. ret_p ([] ++ l))
      nothing (done a u) = refl
      nothing (fault k u) = refl
      nothing cut = refl
  turns_at (y ∷ bs) x xs st s r e = one (turns_at bs x xs) (turns-inv st s (y ∷ bs ++ x ∷ xs) r e)
    where
      grow : (o : Out (List (A × List ℕ))) → then_out (then_out o (λ l. ret_p (bs ++ l))) (λ l. ret_p (y ∷ l)) ≡ then_out o (λ l. ret_p (y ∷ bs ++ l))
      grow (done a u) = refl
      grow (fault k u) = refl
      grow cut = refl

      one : ((st : S) (s r : List ℕ) → turns st s ≡ done (bs ++ x ∷ xs) r → Standing bs x xs st s r) → First st s (y ∷ bs ++ x ∷ xs) r → Standing (y ∷ bs) x xs st s r
      one ih (ended a v q h n z) = some-not-none bs x xs cc
      one ih (went a l st' u q h n w z) =
          let y₁ : a ≡ y = cc in
          let y₂ : l ≡ bs ++ x ∷ xs = cc in
          let k : (s ≡ y.1 ++ u) × ((t : List ℕ) → Follows u t → (item st).run (y.1 ++ t) ≡ done y.0 t) =
          kept-law (item st).run s y u ((item st).law s) (q ∙ ap (λ (c : A × List ℕ). done c u) y₁) in
          let i : Standing bs x xs st' u r = ih st' u r (w ∙ ap (λ (c : List (A × List ℕ)). done c r) y₂) in
          record {
            v = i.v;
            u = i.u;
            file = k.0 ∙ ap (λ (c : List ℕ). y.1 ++ c) i.file ∙ sym (append_assoc y.1 (flat bs) i.u);
            rest = i.rest;
            same = λ t f.
                let m : List ℕ = flat bs ++ t in
                let f₂ : Follows u m = subst (λ (c : List ℕ). Follows c m) (sym i.file) (follows-app (flat bs) i.u t f) in
                ap (turns st) (append_assoc y.1 (flat bs) t)
                ∙ turns-again st (y.1 ++ m) y m st' (kept-done (item st).run y.1 y.0 m (k.1 m f₂))
                (longer y.1 u m (subst (λ (c : List ℕ). length u < length c) k.0 h)) (ap (λ (c : A × List ℕ). next st c.0) (sym y₁) ∙ n)
                ∙ ap (λ (o : Out (List (A × List ℕ))). then_out o (λ c. ret_p (y ∷ c))) (i.same t f)
                ∙ grow (turns i.v t);
          }

  -- the item x by itself, in its state: it took a byte at least, and what it took is that item before what followed it
  pub record Alone (x : A × List ℕ) : Type 0 where
    pub v : S
    pub u : List ℕ
    pub reads : (item v).run (x.1 ++ u) ≡ done x.0 u
    pub some : 0 < length x.1

  pub turn_at : (bs : List (A × List ℕ)) (x : A × List ℕ) (xs : List (A × List ℕ)) (st : S) (s r : List ℕ) → turns st s ≡ done (bs ++ x ∷ xs) r → Alone x
  turn_at bs x xs st s r e = one (turns_at bs x xs st s r e)
    where
      first : (v : S) (u : List ℕ) → First v u (x ∷ xs) r → Alone x
      first v u (ended y w q h m z) =
          let y₁ : y ≡ x = cc in
          let k : (u ≡ x.1 ++ r) × ((t : List ℕ) → Follows r t → (item v).run (x.1 ++ t) ≡ done x.0 t) =
          kept-law (item v).run u x r ((item v).law u) (q ∙ ap (λ (c : A × List ℕ). done c r) y₁) in
          record { v = v; u = r; reads = k.1 r (follows-refl r); some = omega (arith, length-append x.1 r, ap length k.0) }
      first v u (went y l v₂ u₂ q h m w z) =
          let y₁ : y ≡ x = cc in
          let k : (u ≡ x.1 ++ u₂) × ((t : List ℕ) → Follows u₂ t → (item v).run (x.1 ++ t) ≡ done x.0 t) =
          kept-law (item v).run u x u₂ ((item v).law u) (q ∙ ap (λ (c : A × List ℕ). done c u₂) y₁) in
          record { v = v; u = u₂; reads = k.1 u₂ (follows-refl u₂); some = omega (arith, length-append x.1 u₂, ap length k.0) }

      one : Standing bs x xs st s r → Alone x
      one i = first i.v i.u (turns-inv i.v i.u (x ∷ xs) r i.rest)

  -- the bytes, around those of x
  pub splice-file : (bs : List (A × List ℕ)) (x : A × List ℕ) (xs : List (A × List ℕ)) (st : S) (s r : List ℕ) → turns st s ≡ done (bs ++ x ∷ xs) r
      → s ≡ flat bs ++ (x.1 ++ (flat xs ++ r))
  splice-file bs x xs st s r e =
      let i : Standing bs x xs st s r = turns_at bs x xs st s r e in
      i.file ∙ ap (λ (l : List ℕ). flat bs ++ l) (turns-flat (x ∷ xs) i.v i.u r i.rest ∙ append_assoc x.1 (flat xs) r)

  -- other bytes b ∷ d in the place of the item x: they start with the byte x started with
  module _ (bs : List (A × List ℕ)) (x : A × List ℕ) (xs : List (A × List ℕ)) (st : S) (s r : List ℕ) (e : turns st s ≡ done (bs ++ x ∷ xs) r)
      (b : ℕ) (c d : List ℕ) (hx : x.1 ≡ b ∷ c) where
    abbrev here : Standing bs x xs st s r
    here = turns_at bs x xs st s r e

    same_start : (t : List ℕ) → Follows here.u (b ∷ t)
    same_start t =
        let q : here.u ≡ b ∷ ((c ++ flat xs) ++ r) =
        turns-flat (x ∷ xs) here.v here.u r here.rest ∙ ap (λ (l : List ℕ). (l ++ flat xs) ++ r) hx in
        subst (λ (l : List ℕ). Follows l (b ∷ t)) (sym q) (t, refl)

    splice-turn : (a : A) (v : S) (u : List ℕ) → (item v).run (b ∷ d) ≡ done a [] → next v a ≡ next v x.0
        → First v u (x ∷ xs) r → turns v ((b ∷ d) ++ (flat xs ++ r)) ≡ done ((a, b ∷ d) ∷ xs) r
    splice-turn a v u g n (ended y w q h m z) =
        let y₁ : y ≡ x = cc in
        let y₂ : xs ≡ [] = cc in
        let f : flat xs ++ r ≡ r = ap (λ (l : List (A × List ℕ)). flat l ++ r) y₂ in
        ap (λ (l : List ℕ). turns v ((b ∷ d) ++ l)) f
        ∙ turns-last v ((b ∷ d) ++ r) (a, b ∷ d) r w
        (kept-done (item v).run (b ∷ d) a r (stable-done (item v).run (b ∷ d) a [] r ((item v).law (b ∷ d)) g))
        (omega (arith, length-append d r)) (n ∙ ap (λ (l : A × List ℕ). next v l.0) (sym y₁) ∙ m)
        ∙ ap (λ (l : List (A × List ℕ)). done ((a, b ∷ d) ∷ l) r) (sym y₂)
    splice-turn a v u g n (went y l v₂ u₂ q h m w z) =
        let y₁ : y ≡ x = cc in
        let y₂ : l ≡ xs = cc in
        let w₂ : turns v₂ u₂ ≡ done xs r = w ∙ ap (λ (l : List (A × List ℕ)). done l r) y₂ in
        turns-again v ((b ∷ d) ++ (flat xs ++ r)) (a, b ∷ d) (flat xs ++ r) v₂
        (kept-done (item v).run (b ∷ d) a (flat xs ++ r) (stable-done (item v).run (b ∷ d) a [] (flat xs ++ r) ((item v).law (b ∷ d)) g))
        (omega (arith, length-append d (flat xs ++ r))) (n ∙ ap (λ (l : A × List ℕ). next v l.0) (sym y₁) ∙ m)
        ∙ ap (λ (o : Out (List (A × List ℕ))). then_out o (λ k. ret_p ((a, b ∷ d) ∷ k)))
        (ap (turns v₂) (sym (turns-flat xs v₂ u₂ r w₂)) ∙ w₂)

    -- they are one item, which leads from each state where x led: the items are the same but for this one
    pub splice-done : (a : A) → ((v : S) → (item v).run (b ∷ d) ≡ done a []) → ((v : S) → next v a ≡ next v x.0)
        → turns st (flat bs ++ ((b ∷ d) ++ (flat xs ++ r))) ≡ done (bs ++ (a, b ∷ d) ∷ xs) r
    splice-done a g n =
        here.same ((b ∷ d) ++ (flat xs ++ r)) (same_start (d ++ (flat xs ++ r)))
        ∙ ap (λ (o : Out (List (A × List ℕ))). then_out o (λ l. ret_p (bs ++ l)))
        (splice-turn a here.v here.u (g here.v) (n here.v) (turns-inv here.v here.u (x ∷ xs) r here.rest))

    -- they are at fault: the whole is at fault there
    pub splice-fault : (k : ℕ) (w : List ℕ) → ((v : S) → (item v).run (b ∷ d) ≡ fault k w)
        → turns st (flat bs ++ ((b ∷ d) ++ (flat xs ++ r))) ≡ fault k (w ++ (flat xs ++ r))
    splice-fault k w g =
        let t : List ℕ = flat xs ++ r in
        here.same ((b ∷ d) ++ t) (same_start (d ++ t))
        ∙ ap (λ (o : Out (List (A × List ℕ))). then_out o (λ l. ret_p (bs ++ l)))
        (turns-fault here.v ((b ∷ d) ++ t) k (w ++ t)
        (stable-fault (item here.v).run (b ∷ d) k w t ((item here.v).law (b ∷ d)) (g here.v)))
