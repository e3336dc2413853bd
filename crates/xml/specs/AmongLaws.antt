-- Laws of a table of names: what each answer says of the bytes, and the law that every grammar has. Assumes nothing.
use Rattle.std.specs.Prelude.{◌≡◌, refl, Bool, true, false, cond, ◌&&◌, List, [], ◌∷◌, ◌++◌, ℕ, eqb}
use Rattle.std.proofs.Common.{sym, ap, ◌∙◌, subst, append-nil, append_assoc, eqb-true, eq-eqb}
use Rattle.grammar.specs.Parse.{Out, done, fault, cut}
use Rattle.grammar.specs.Laws.{nope, StrongPrefix, cuts, faults, dones}
use Rattle.xml.specs.Bytes.{is_name_byte}
use Rattle.xml.specs.Among.{name_or, among}

-- ---- names: words of name bytes

abbrev pub all_name : List ℕ → Bool
all_name [] = true
all_name (b ∷ w) = is_name_byte b && all_name w

pub all_first : (c : ℕ) (w : List ℕ) → all_name (c ∷ w) ≡ true → (is_name_byte c ≡ true) × (all_name w ≡ true)
all_first c w h = go (is_name_byte c) refl
  where
    go : (v : Bool) → is_name_byte c ≡ v → (v ≡ true) × (all_name w ≡ true)
    go true q = (refl, rw q at h)
    go false q = let z : false ≡ true = rw q at h in nope cc

module _ {A : Type 0} where
  -- P holds of every name of a table and what it stands for
  abbrev pub EachName : (List ℕ → A → Type 0) → List (List ℕ × A) → Type 0
  EachName P [] = Unit {0}
  EachName P (x ∷ l) = P x.0 x.1 × EachName P l

  -- a table of names
  abbrev pub AllNames : List (List ℕ × A) → Type 0
  AllNames l = EachName (λ w a. all_name w ≡ true) l

-- ---- one word

-- bytes against a word: a beginning of it or the word alone; the word, and then b, which is no name byte; or neither, whatever follows
data WordView (A : Type 0) (w s : List ℕ) : Type 0 where
  begins : ((a : A) (o : Out A) → name_or a o w s ≡ cut) → WordView A w s
  stands : (b : ℕ) (u : List ℕ) → s ≡ w ++ b ∷ u → is_name_byte b ≡ false → WordView A w s
  differs : ((a : A) (o : Out A) (t : List ℕ) → name_or a o w (s ++ t) ≡ o) → WordView A w s

module _ {A : Type 0} where
  word-view : (w s : List ℕ) → WordView A w s
  word-view w [] = begins (λ a o. refl)
  word-view [] (b ∷ s) = go (is_name_byte b) refl
    where
      go : (v : Bool) → is_name_byte b ≡ v → WordView A [] (b ∷ s)
      go true q = differs (λ a o t. rw q)
      go false q = stands b s refl q
  word-view (c ∷ w) (b ∷ s) = go (eqb b c) refl (word-view w s)
    where
      go : (v : Bool) → eqb b c ≡ v → WordView A w s → WordView A (c ∷ w) (b ∷ s)
      go false q x = differs (λ a o t. rw q)
      go true q (begins h) = begins (λ a o. rw q (h a o))
      go true q (stands d u e k) = let y : b ≡ c = eqb-true b c q in stands d u (cc) k
      go true q (differs h) = differs (λ a o t. rw q (h a o t))

  word_stands : (w : List ℕ) (a : A) (o : Out A) (b : ℕ) (t : List ℕ) → is_name_byte b ≡ false → name_or a o w (w ++ b ∷ t) ≡ done a (b ∷ t)
  word_stands [] a o b t k = rw k
  word_stands (c ∷ w) a o b t k = rw (eq-eqb c c refl) (word_stands w a o b t k)

  -- what both begin with passes
  behind-lead : (lead w s : List ℕ) (a : A) (o : Out A) → name_or a o (lead ++ w) (lead ++ s) ≡ name_or a o w s
  behind-lead [] w s a o = refl
  behind-lead (c ∷ lead) w s a o = rw (eq-eqb c c refl) (behind-lead lead w s a o)

  -- a name, and bytes that have a byte of no name behind v: whether the name differs is settled there
  still-differs : (a : A) (w v : List ℕ) (b : ℕ) (u t : List ℕ) → all_name w ≡ true → is_name_byte b ≡ false
      → ((o : Out A) → name_or a o w (v ++ b ∷ u) ≡ o) → (o : Out A) → name_or a o w (v ++ b ∷ t) ≡ o
  still-differs a [] [] b u t i k h o = let z : done a (b ∷ u) ≡ cut = rw k at (h cut) in nope cc
  still-differs a [] (x ∷ v) b u t i k h o = go (is_name_byte x) refl
    where
      go : (y : Bool) → is_name_byte x ≡ y → name_or a o [] (x ∷ v ++ b ∷ t) ≡ o
      go true q = rw q
      go false q = let z : done a (x ∷ v ++ b ∷ u) ≡ cut = rw q at (h cut) in nope cc
  still-differs a (c ∷ w) [] b u t i k h o = go (eqb b c) refl
    where
      go : (y : Bool) → eqb b c ≡ y → cond y (name_or a o w t) o ≡ o
      go true q = let e : b ≡ c = eqb-true b c q in let z : false ≡ true = sym k ∙ ap is_name_byte e ∙ (all_first c w i).0 in nope cc
      go false q = refl
  still-differs a (c ∷ w) (x ∷ v) b u t i k h o = go (eqb x c) refl (λ m. still-differs a w v b u t (all_first c w i).1 k m o)
    where
      go : (y : Bool) → eqb x c ≡ y → (((p : Out A) → name_or a p w (v ++ b ∷ u) ≡ p) → name_or a o w (v ++ b ∷ t) ≡ o) → name_or a o (c ∷ w) (x ∷ v ++ b ∷ t) ≡ o
      go true q more = rw q (more (λ p. rw q at (h p)))
      go false q more = rw q

  -- ---- all names

  module _ (P : List ℕ → A → Type 0) (named : (w : List ℕ) (a : A) → P w a → all_name w ≡ true) (lead : List ℕ) (k : ℕ) where
    -- bytes against a table: cut; the fault at their first byte; or a name w that stands for a, and b, which is no name byte
    pub data AmongView (l : List (List ℕ × A)) (s : List ℕ) : Type 0 where
      is_cut : among lead k l s ≡ cut → AmongView l s
      is_none : ((t : List ℕ) → among lead k l (s ++ t) ≡ fault k (s ++ t)) → AmongView l s
      is_name : (w : List ℕ) (a : A) (b : ℕ) (u : List ℕ) → P w a → s ≡ lead ++ (w ++ b ∷ u) → is_name_byte b ≡ false
          → ((t : List ℕ) → among lead k l (lead ++ (w ++ b ∷ t)) ≡ done a (b ∷ t)) → AmongView l s

    pub among-view : (l : List (List ℕ × A)) → EachName P l → (s : List ℕ) → AmongView l s
    among-view [] i s = is_none (λ t. refl)
    among-view (x ∷ l) i s = go (word-view (lead ++ x.0) s) (among-view l i.1 s)
      where
        rest : List ℕ → Out A
        rest = among lead k l

        go : WordView A (lead ++ x.0) s → AmongView l s → AmongView (x ∷ l) s
        go (begins h) v = is_cut (h x.1 (rest s))
        go (stands b u e n) v =
            is_name x.0 x.1 b u i.0 (e ∙ append_assoc lead x.0 (b ∷ u)) n
            (λ t. behind-lead lead x.0 (x.0 ++ b ∷ t) x.1 (rest (lead ++ (x.0 ++ b ∷ t))) ∙ word_stands x.0 x.1 (rest (lead ++ (x.0 ++ b ∷ t))) b t n)
        go (differs h) (is_cut q) = is_cut (subst (λ (z : List ℕ). name_or x.1 (rest s) (lead ++ x.0) z ≡ rest s) (append-nil s) (h x.1 (rest s) []) ∙ q)
        go (differs h) (is_none q) = is_none (λ t. h x.1 (rest (s ++ t)) t ∙ q t)
        go (differs h) (is_name w a b u p e n f) =
            is_name w a b u p e n
            (λ t. behind-lead lead x.0 (w ++ b ∷ t) x.1 (rest (lead ++ (w ++ b ∷ t)))
            ∙ still-differs x.1 x.0 w b u t (named x.0 x.1 i.0) n
            (λ o. sym (behind-lead lead x.0 (w ++ b ∷ u) x.1 o)
            ∙ subst (λ (z : List ℕ). name_or x.1 o (lead ++ x.0) z ≡ o) (append-nil s ∙ e) (h x.1 o [])) (rest (lead ++ (w ++ b ∷ t)))
            ∙ f t)

  -- ---- the law that every grammar has

  pub among-answer : (lead : List ℕ) (k : ℕ) (l : List (List ℕ × A)) → AllNames l → (s : List ℕ) → StrongPrefix (among lead k l) s
  among-answer lead k l i s = go (among-view (λ w a. all_name w ≡ true) (λ w a p. p) lead k l i s)
    where
      go : AmongView (λ w a. all_name w ≡ true) (λ w a p. p) lead k l s → StrongPrefix (among lead k l) s
      go (is_cut q) = cuts q
      go (is_none q) = faults k [] s refl q
      go (is_name w a b u p e n f) =
          dones a (lead ++ w) (b ∷ u) (e ∙ sym (append_assoc lead w (b ∷ u)))
          (λ t h. ap (among lead k l) (append_assoc lead w t) ∙ subst (λ (z : List ℕ). among lead k l (lead ++ (w ++ z)) ≡ done a z) (sym h.1) (f h.0))

  -- ---- faults: each is k

  or-fault : (a : A) (o : Out A) (w s : List ℕ) (j : ℕ) (r : List ℕ) → name_or a o w s ≡ fault j r → o ≡ fault j r
  or-fault a o w [] j r e = nope cc
  or-fault a o [] (b ∷ s) j r e = go (is_name_byte b) e
    where
      go : (v : Bool) → cond v o (done a (b ∷ s)) ≡ fault j r → o ≡ fault j r
      go true z = z
      go false z = nope cc
  or-fault a o (c ∷ w) (b ∷ s) j r e = go (eqb b c) e (or-fault a o w s j r)
    where
      go : (v : Bool) → cond v (name_or a o w s) o ≡ fault j r → (name_or a o w s ≡ fault j r → o ≡ fault j r) → o ≡ fault j r
      go true z more = more z
      go false z more = z

  pub among-fault : (lead : List ℕ) (k : ℕ) (l : List (List ℕ × A)) (s : List ℕ) (j : ℕ) (r : List ℕ) → among lead k l s ≡ fault j r → j ≡ k
  among-fault lead k [] s j r e = cc
  among-fault lead k (x ∷ l) s j r e = among-fault lead k l s j r (or-fault x.1 (among lead k l s) (lead ++ x.0) s j r e)
