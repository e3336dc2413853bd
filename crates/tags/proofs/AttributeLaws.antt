-- An attribute, as the code goes through it. Assumes nothing.
use mathlib.Core.Path.{◌≡◌, refl, sym, ap, ◌∙◌}
use mathlib.Core.Bool.{Bool, true, false, cond}
use mathlib.Core.List.{List, ◌∷◌}
use Prim.Native.Nat.{ℕ, zero, suc, ◌+◌, ◌-◌, ◌≤◌, ◌<◌}
use native.Mathlib.Omega.{arith}
use lib.ListN.{length, get_or, drop}
use lib.Dec.{leb}
use borrow.Author.Tests.{leb-false}
use Rattle.scanning.specs.Steps.{here, past, part_length}
use Rattle.grammar.specs.Parse.{Out, done, fault, cut, Parser, then_out, bind_p, ret_p, judged_to, judge_out, judge_p, eat_p}
use Rattle.grammar.specs.Grammar.{seq}
use Rattle.grammar.specs.Laws.{nope}
use Rattle.xml.specs.Bytes.{is_quote, equals}
use Rattle.xml.specs.Xml.{byte, spaces, name, text_to, Attribute, is_named, Rules, name_fault, attribute}
use Rattle.xml.specs.Code.{part, Reads, Failed}
use Rattle.xml.specs.CodeLaws.{reads-ended, reads_then, reads-failed, place-left}
use Rattle.xml.specs.Code.{Scan}
use Rattle.std.specs.Prelude.{Result, Ok, Err}
use Rattle.xml.specs.declared.Stop.{Stop}
use Rattle.xml.specs.declared.Stop.TheVariants.{Fault, Cut}
use Rattle.tags.specs.Code.{part_in, byte_before, quote, to_quote, BeginsText, behind_quote, named, attribute_out, places, attribute_placed, AttributeInside, AttributeIs}
use Rattle.tags.specs.declared.AttributePlaces.{AttributePlaces}
use Rattle.tags.proofs.Words.{part_in_lem}

pub verdict-bad : {A : Type 0} (k : ℕ) (a : A) (r s : List ℕ) → (k ≡ 0 → ⊥) → judged_to k a r s ≡ fault k s
verdict-bad zero a r s h = absurd (h refl)
verdict-bad (suc k) a r s h = refl

-- ---- white space and a quote

abbrev is_quote_byte : Parser ℕ
is_quote_byte = judge_p (λ b. cond (is_quote b) 0 2) eat_p

module _ (s : List ℕ) (at : ℕ) where
  pub quote-failed : (r : Scan) → Failed r → Reads 0 spaces.run (part s at) s at r → Reads 1 quote.run (byte_before s) s at r
  quote-failed r h v = reads-failed spaces.run (part s at) (λ x. is_quote_byte) (byte_before s) s at 0 1 r h v

  module _ (p : ℕ) (v : Reads 0 spaces.run (part s at) s at (Ok p)) where
    quote-then : (r : Scan) → Reads 1 is_quote_byte (byte_before s) s p r → Reads 1 quote.run (byte_before s) s at r
    quote-then r w = reads_then spaces.run (part s at) (λ x. is_quote_byte) (byte_before s) s at 0 1 p r v w

    pub quote-cut : length s ≤ p → Reads 1 quote.run (byte_before s) s at (Err Cut)
    quote-cut h = quote-then (Err Cut) (reads-ended is_quote_byte (byte_before s) s p 1 refl h)

    module _ (h : p < length s) where
      quote-byte : (t : Bool) → is_quote (get_or s p 0) ≡ t → is_quote_byte (drop p s) ≡ judged_to (cond t 0 2) (get_or s p 0) (drop (p + 1) s) (drop p s)
      quote-byte t q =
          ap is_quote_byte (here s p h) ∙ ap (λ (x : Bool). judged_to (cond x 0 2) (get_or s p 0) (drop (p + 1) s) (get_or s p 0 ∷ drop (p + 1) s)) q
          ∙ ap (judged_to (cond t 0 2) (get_or s p 0) (drop (p + 1) s)) (sym (here s p h))

      pub quote-is : is_quote (get_or s p 0) ≡ true → Reads 1 quote.run (byte_before s) s at (Ok (p + 1))
      quote-is q =
          let e : (p + 1) - 1 ≡ p = omega arith in
          quote-then (Ok (p + 1)) (record {
            out = ap (λ (n : ℕ). done (get_or s n 0) (drop (p + 1) s)) e ∙ sym (quote-byte true q);
            inside = (omega arith, omega arith);
          })

      pub quote-other : is_quote (get_or s p 0) ≡ false → Reads 1 quote.run (byte_before s) s at (Err (Fault 2 p))
      quote-other q = quote-then (Err (Fault 2 p)) (record { out = sym (quote-byte false q); inside = (omega arith, omega arith) })

-- ---- up to the first quote

module _ (s : List ℕ) (at : ℕ) where
  pub to-failed : (r : Scan) → Failed r → Reads 0 spaces.run (part s at) s at r → Reads 2 to_quote.run (byte_before s) s at r
  to-failed r h v = reads-failed spaces.run (part s at) (λ x. bind_p (byte equals 2).run (λ y. quote.run)) (byte_before s) s at 0 2 r h v

  module _ (a : ℕ) (v : Reads 0 spaces.run (part s at) s at (Ok a)) where
    to-then : (r : Scan) → Reads 2 (bind_p (byte equals 2).run (λ y. quote.run)) (byte_before s) s a r → Reads 2 to_quote.run (byte_before s) s at r
    to-then r w = reads_then spaces.run (part s at) (λ x. bind_p (byte equals 2).run (λ y. quote.run)) (byte_before s) s at 0 2 a r v w

    pub to-no-equals : (r : Scan) → Failed r → Reads 1 (byte equals 2).run (λ e. get_or s a 0) s a r → Reads 2 to_quote.run (byte_before s) s at r
    to-no-equals r h w = to-then r (reads-failed (byte equals 2).run (λ e. get_or s a 0) (λ y. quote.run) (byte_before s) s a 1 2 r h w)

    pub to-quote : (e : ℕ) (r : Scan) → Reads 1 (byte equals 2).run (λ e. get_or s a 0) s a (Ok e) → Reads 1 quote.run (byte_before s) s e r
        → Reads 2 to_quote.run (byte_before s) s at r
    to-quote e r w x = to-then r (reads_then (byte equals 2).run (λ e. get_or s a 0) (λ y. quote.run) (byte_before s) s a 1 1 e r w x)

-- ---- behind the first quote

module _ (rules : Rules) (s : List ℕ) (at e q : ℕ) (h : (at < e) × (e < q) × (q ≤ length s) × BeginsText s e q) where
  abbrev texts : (Unit {0}) × List ℕ → ℕ
  texts x = rules.texts (part s at e) x.1

  abbrev the_text : Parser ((Unit {0}) × List ℕ)
  the_text = (text_to (byte_before s q)).run

  abbrev rest : (Unit {0}) × List ℕ → Parser Attribute
  rest t = bind_p eat_p (λ y. ret_p (record { name = part s at e; text = t.1 }))

  abbrev answer : Out Attribute
  answer = (behind_quote rules (part s at e) (byte_before s q)).run (drop q s)

  module _ (t : ℕ) (v : Reads 0 the_text (λ x. (tt, part s q x)) s q (Ok t)) (k : ℕ) (n : k ≡ rules.texts (part_in s at e) (part_in s q t)) where
    text-read : answer ≡ then_out (judged_to k (tt, part s q t) (drop t s) (drop q s)) rest
    text-read =
        ap (λ (o : Out ((Unit {0}) × List ℕ)). then_out (judge_out texts o (drop q s)) rest) (sym v.out)
        ∙ ap (λ (m : ℕ). then_out (judged_to m (tt, part s q t) (drop t s) (drop q s)) rest)
        (sym (n ∙ ap (λ (l : List ℕ). rules.texts l (part_in s q t)) (sym (part_in_lem s at e (omega (arith, h.1, h.2)))) ∙ ap (rules.texts (part s at e)) (sym (part_in_lem s q t v.inside.1))))

    pub text-bad : (k ≡ 0 → ⊥) → AttributeIs s at (Err (Fault k q)) answer
    text-bad z = record {
      out = sym (text-read ∙ ap (λ (o : Out ((Unit {0}) × List ℕ)). then_out o rest) (verdict-bad k (tt, part s q t) (drop t s) (drop q s) z));
      inside = (omega (arith, h.0, h.1), h.2);
    }

    text-good : k ≡ 0 → answer ≡ rest (tt, part s q t) (drop t s)
    text-good z = text-read ∙ ap (λ (m : ℕ). then_out (judged_to m (tt, part s q t) (drop t s) (drop q s)) rest) z

    pub text-cut : k ≡ 0 → length s ≤ t → AttributeIs s at (Err Cut) answer
    text-cut z l = record { out = sym (text-good z ∙ ap (rest (tt, part s q t)) (past s t l)); inside = tt }

    pub text-done : k ≡ 0 → t < length s → AttributeIs s at (Ok (places at e q t)) answer
    text-done z l = record { out = sym (text-good z ∙ ap (rest (tt, part s q t)) (here s t l)); inside = (refl, h.0, h.1, omega (arith, v.inside), l, h.3) }

  pub text-failed : (stop : Stop) → Reads 0 the_text (λ x. (tt, part s q x)) s q (Err stop) → AttributeIs s at (Err stop) answer
  text-failed (Fault k p) v = record {
    out = ap (λ (o : Out ((Unit {0}) × List ℕ)). then_out (judge_out texts o (drop q s)) rest) v.out;
    inside = (omega (arith, h.0, h.1, v.inside), v.inside.1);
  }
  text-failed Cut v = record { out = ap (λ (o : Out ((Unit {0}) × List ℕ)). then_out (judge_out texts o (drop q s)) rest) v.out; inside = tt }

-- ---- behind the name

module _ (rules : Rules) (attributes : List Attribute) (s : List ℕ) (at e : ℕ) (h : (at < e) × (e ≤ length s)) (k : ℕ) (n : k ≡ name_fault rules attributes (part_in s at e)) where
  abbrev behind : List ℕ → Parser Attribute
  behind v = (seq to_quote (behind_quote rules v)).run

  abbrev whole : Out Attribute
  whole = named rules attributes (part s at e) (drop e s) (drop at s)

  by-fault : whole ≡ then_out (judged_to k (part s at e) (drop e s) (drop at s)) behind
  by-fault =
      ap (λ (m : ℕ). then_out (judged_to m (part s at e) (drop e s) (drop at s)) behind) (sym (n ∙ ap (name_fault rules attributes) (sym (part_in_lem s at e h.1))))

  pub named-bad : (k ≡ 0 → ⊥) → AttributeIs s at (Err (Fault k at)) whole
  named-bad z = record {
    out = sym (by-fault ∙ ap (λ (o : Out (List ℕ)). then_out o behind) (verdict-bad k (part s at e) (drop e s) (drop at s) z));
    inside = (omega arith, omega (arith, h.0, h.1));
  }

  module _ (z : k ≡ 0) where
    named-good : whole ≡ behind (part s at e) (drop e s)
    named-good = by-fault ∙ ap (λ (m : ℕ). then_out (judged_to m (part s at e) (drop e s) (drop at s)) behind) z

    pub named-quote : (q : ℕ) (r : Result AttributePlaces Stop) → Reads 2 to_quote.run (byte_before s) s e (Ok q)
        → AttributeIs s at r ((behind_quote rules (part s at e) (byte_before s q)).run (drop q s)) → AttributeIs s at r whole
    named-quote q r v x = record {
      out = x.out ∙ sym (named-good ∙ ap (λ (o : Out ℕ). then_out o (λ b. (behind_quote rules (part s at e) b).run)) (sym v.out));
      inside = x.inside;
    }

    pub named-failed : (stop : Stop) → Reads 2 to_quote.run (byte_before s) s e (Err stop) → AttributeIs s at (Err stop) whole
    named-failed (Fault m p) v = record {
      out = sym (named-good ∙ ap (λ (o : Out ℕ). then_out o (λ b. (behind_quote rules (part s at e) b).run)) (sym v.out));
      inside = (omega (arith, h.0, v.inside), v.inside.1);
    }
    named-failed Cut v = record {
      out = sym (named-good ∙ ap (λ (o : Out ℕ). then_out o (λ b. (behind_quote rules (part s at e) b).run)) (sym v.out));
      inside = tt;
    }

-- ---- the whole attribute

-- one after two others is one after the first, where what follows the first says so
then_one : {A B C : Type 0} (o : Out A) (f : A → Parser B) (g : B → Parser C) (k : A → Parser C)
    → ((a : A) (r : List ℕ) → k a r ≡ then_out (f a r) g) → then_out o k ≡ then_out (then_out o f) g
then_one (done a r) f g k h = h a r
then_one (fault m r) f g k h = refl
then_one cut f g k h = refl

module _ (rules : Rules) (attributes : List Attribute) where
  abbrev onward : List ℕ → Parser Attribute
  onward w = (seq to_quote (behind_quote rules w)).run

  to-parts : (w l : List ℕ) → bind_p spaces.run (λ x. bind_p (byte equals 2).run (λ y. bind_p spaces.run (λ z. bind_p is_quote_byte (λ q. (behind_quote rules w q).run)))) l
      ≡ onward w l
  to-parts w l =
      then_one (spaces.run l) _ _ _ (λ a r. then_one ((byte equals 2).run r) _ _ _ (λ a₂ r₂. then_one (spaces.run r₂) _ _ _ (λ a₃ r₃. refl)))

  attribute-parts : (l : List ℕ) → (attribute rules attributes).run l ≡ then_out (judge_out (name_fault rules attributes) (name.run l) l) onward
  unfolding attribute
  attribute-parts l = go (judge_out (name_fault rules attributes) (name.run l) l)
    where
      go : (o : Out (List ℕ)) → then_out o (λ w. bind_p spaces.run (λ x. bind_p (byte equals 2).run (λ y. bind_p spaces.run (λ z. bind_p is_quote_byte (λ q. (behind_quote rules w q).run)))))
          ≡ then_out o onward
      go (done w r) = to-parts w r
      go (fault k r) = refl
      go cut = refl

  pub attribute-named : (s : List ℕ) (at e : ℕ) (r : Result AttributePlaces Stop) → Reads 1 name.run (part s at) s at (Ok e)
      → AttributeIs s at r (named rules attributes (part s at e) (drop e s) (drop at s)) → (attribute_out s at r ≡ (attribute rules attributes).run (drop at s)) × AttributeInside s at r
  attribute-named s at e r v x =
      (x.out ∙ sym (attribute-parts (drop at s) ∙ ap (λ (o : Out (List ℕ)). then_out (judge_out (name_fault rules attributes) o (drop at s)) onward) (sym v.out)), x.inside)

  pub attribute-failed : (s : List ℕ) (at : ℕ) (stop : Stop) → Reads 1 name.run (part s at) s at (Err stop)
      → (attribute_out s at (Err stop) ≡ (attribute rules attributes).run (drop at s)) × AttributeInside s at (Err stop)
  attribute-failed s at (Fault k p) v =
      (sym (attribute-parts (drop at s) ∙ ap (λ (o : Out (List ℕ)). then_out (judge_out (name_fault rules attributes) o (drop at s)) onward) (sym v.out)), v.inside)
  attribute-failed s at Cut v =
      (sym (attribute-parts (drop at s) ∙ ap (λ (o : Out (List ℕ)). then_out (judge_out (name_fault rules attributes) o (drop at s)) onward) (sym v.out)), tt)

  -- ---- an attribute is read behind fifteen others at most

  few-fault : (w : List ℕ) → name_fault rules attributes w ≡ 0 → length attributes < 16
  few-fault w e = go (is_named w attributes) (leb 16 (length attributes)) refl e
    where
      go : (a b : Bool) → leb 16 (length attributes) ≡ b → cond a 2 (cond b 3 (rules.names w)) ≡ 0 → length attributes < 16
      go true b q z = absurd (omega arith)
      go false true q z = absurd (omega arith)
      go false false q z = let k : length attributes < 16 = leb-false 16 (length attributes) q in k

  few-verdict : (w r l : List ℕ) (a : Attribute) (u : List ℕ) (k : ℕ) → name_fault rules attributes w ≡ k → then_out (judged_to k w r l) onward ≡ done a u → length attributes < 16
  few-verdict w r l a u zero q z = few-fault w q
  few-verdict w r l a u (suc k) q z = nope cc

  few-name : (o : Out (List ℕ)) (l : List ℕ) (a : Attribute) (u : List ℕ) → then_out (judge_out (name_fault rules attributes) o l) onward ≡ done a u → length attributes < 16
  few-name (done w r) l a u z = few-verdict w r l a u (name_fault rules attributes w) refl z
  few-name (fault k r) l a u z = nope cc
  few-name cut l a u z = nope cc

  pub attribute-few : (l : List ℕ) (a : Attribute) (u : List ℕ) → (attribute rules attributes).run l ≡ done a u → length attributes < 16
  attribute-few l a u z = few-name (name.run l) l a u (sym (attribute-parts l) ∙ z)

-- ---- there is one answer

places-alike : (n e a t n₂ e₂ a₂ t₂ : ℕ) → n ≡ n₂ → e ≡ e₂ → a ≡ a₂ → t ≡ t₂ → places n e a t ≡ places n₂ e₂ a₂ t₂
places-alike n e a t n₂ e₂ a₂ t₂ w x y z = cc (w, x, y, z)

module _ (s : List ℕ) (at : ℕ) where
  placed-attribute : (r : Result AttributePlaces Stop) → AttributeInside s at r → r ≡ attribute_placed at (drop at s) (attribute_out s at r)
  placed-attribute (Ok r) i =
      let e : ℕ = r.name.end in
      let a : ℕ = r.text.start in
      let t : ℕ = r.text.end in
      let last : ℕ = at + (length (drop at s) - length (drop (t + 1) s)) - 1 in
      let x : e ≡ at + length (part s at e) = omega (arith, i, part_length s at e (omega (arith, i)) (omega (arith, i))) in
      let z : t ≡ last = omega (arith, place-left s at (t + 1) (omega (arith, i)) (omega (arith, i))) in
      let y : a ≡ last - length (part s a t) = omega (arith, i, z, part_length s a t (omega (arith, i)) (omega (arith, i))) in
      ap Ok (places-alike r.name.start e a t _ _ _ _ i.0 x y z)
  placed-attribute (Err (Fault k p)) i = ap (λ x. Err (Fault k x)) (place-left s at p i.0 i.1)
  placed-attribute (Err Cut) i = refl

  pub attribute-placed : (r : Result AttributePlaces Stop) (o : Out Attribute) → (attribute_out s at r ≡ o) × AttributeInside s at r → r ≡ attribute_placed at (drop at s) o
  attribute-placed r o v = placed-attribute r v.1 ∙ ap (attribute_placed at (drop at s)) v.0
