-- Start tags and end tags in front of what follows them. Assumes nothing.
use mathlib.Core.Path.{◌≡◌, refl, ap, ◌∙◌}
use mathlib.Core.Bool.{Bool, true, false, cond, ◌&&◌, ◌||◌}
use mathlib.Core.List.{List, [], ◌∷◌, ◌++◌}
use Prim.Native.Nat.{ℕ, ◌≤◌}
use native.Mathlib.Omega.{arith}
use lib.Dec.{eqb, leb}
use lib.ListN.{length, length-append}
use borrow.Author.Tests.{lt-ltb, ne_eqb, leb-true}
use Rattle.valid.specs.Valid.{every}
use Rattle.valid.proofs.Elements.{both_true}
use Rattle.valid.proofs.Readings.{same_self}
use Rattle.grammar.specs.Parse.{Out, done, cut, Parser, Turn, again, then_out, ret_p, judged_to, judge_out, strict_out, loop_p}
use Rattle.grammar.specs.Laws.{nope, loop-again, loop-last}
use Rattle.grammar.specs.Grammar.{look}
use Rattle.xml.specs.Bytes.{same, is_space, is_letter, is_digit, is_name_byte, is_quote}
use Rattle.xml.specs.Xml.{name, spaces, text_to, Attribute, Rules, name_fault, attribute, TagState, Tag, tag_byte, start_tag, close_name, end_tag}
use Rattle.xml.specs.Elements.{only_end}
use Rattle.reads_back.proofs.Texts.{skip, is_name, name-reads, close_name-reads, plain_byte, text-reads}

-- ---- a value that is judged to be without fault

pub judge-reads : {A : Type 0} (j : A → ℕ) (o : Out A) (s : List ℕ) (a : A) (r : List ℕ) → o ≡ done a r → j a ≡ 0 → judge_out j o s ≡ done a r
judge-reads j o s a r e q = ap (λ (x : Out _). judge_out j x s) e ∙ ap (λ (n : ℕ). judged_to n a r s) q

-- ---- bytes that are no white space

pub no-space : (b : ℕ) → 33 ≤ b → is_space b ≡ false
unfolding is_space
no-space b h = rw (ne_eqb b 32 (λ e. omega arith), ne_eqb b 10 (λ e. omega arith), ne_eqb b 9 (λ e. omega arith), ne_eqb b 13 (λ e. omega arith))

pub letter-big : (b : ℕ) → is_letter b ≡ true → 65 ≤ b
unfolding is_letter
letter-big b h = go (leb 97 b) (leb 65 b) refl refl h
  where
    go : (x y : Bool) → leb 97 b ≡ x → leb 65 b ≡ y → ((x && leb b 122) || (y && leb b 90)) ≡ true → 65 ≤ b
    go true y p q e = let z = leb-true 97 b p in omega arith
    go false true p q e = leb-true 65 b q
    go false false p q e = nope cc

-- ---- attributes

-- a byte of an attribute's text in double quotes that does not end it, and begins neither markup nor an `&` form
abbrev pub in_quotes : ℕ → Bool
in_quotes = plain_byte (λ b. eqb b 34)

pub quotes-by : (b : ℕ) → (b ≡ 34 → ⊥) → (b ≡ 60 → ⊥) → (b ≡ 38 → ⊥) → in_quotes b ≡ true
quotes-by b p q r = rw (ne_eqb b 34 p, ne_eqb b 60 q, ne_eqb b 38 r)

-- a text of such bytes
abbrev pub quoted : List ℕ → Bool
quoted v = every in_quotes v

not-spaces : (b : ℕ) (t : List ℕ) → is_space b ≡ false → spaces.run (b ∷ t) ≡ done [] (b ∷ t)
unfolding spaces
not-spaces b t h = rw h

pub equals-name : is_name_byte 61 ≡ false
unfolding is_name_byte is_letter is_digit
equals-name = refl

module _ (rules : Rules) where
  -- name, `=`, and a text in double quotes
  pub attribute-reads : (attributes : List Attribute) (w v t : List ℕ) → is_name w ≡ true → quoted v ≡ true → name_fault rules attributes w ≡ 0 → rules.texts w v ≡ 0
      → (attribute rules attributes).run (w ++ 61 ∷ 34 ∷ (v ++ 34 ∷ t)) ≡ done (record { name = w; text = v }) t
  unfolding attribute is_space is_quote
  attribute-reads attributes w v t h k f q =
      let a : judge_out (name_fault rules attributes) (name.run (w ++ 61 ∷ 34 ∷ (v ++ 34 ∷ t))) (w ++ 61 ∷ 34 ∷ (v ++ 34 ∷ t)) ≡ done w (61 ∷ 34 ∷ (v ++ 34 ∷ t)) =
      judge-reads (name_fault rules attributes) (name.run (w ++ 61 ∷ 34 ∷ (v ++ 34 ∷ t))) (w ++ 61 ∷ 34 ∷ (v ++ 34 ∷ t)) w (61 ∷ 34 ∷ (v ++ 34 ∷ t))
      (name-reads w 61 (34 ∷ (v ++ 34 ∷ t)) h equals-name) f in
      let b : judge_out (λ (x : (Unit {0}) × List ℕ). rules.texts w x.1) ((text_to 34).run (v ++ 34 ∷ t)) (v ++ 34 ∷ t) ≡ done (tt, v) (34 ∷ t) =
      judge-reads (λ (x : (Unit {0}) × List ℕ). rules.texts w x.1) ((text_to 34).run (v ++ 34 ∷ t)) (v ++ 34 ∷ t) (tt, v) (34 ∷ t) (text-reads (λ b. eqb b 34) v 34 t k refl) q in
      rw (a, not-spaces 61 (34 ∷ (v ++ 34 ∷ t)) refl, not-spaces 34 (v ++ 34 ∷ t) refl, b)

  -- ---- start tags

  abbrev turn : TagState → Parser (Turn TagState Tag)
  turn st = (look (tag_byte rules st)).run

  -- a start tag from here on, in a state
  unfoldable pub tag_from : List Attribute → Parser Tag
  tag_from attributes = loop_p turn (record { spaced = false; attributes = attributes })

  pub tag-from : (s : List ℕ) → (start_tag rules).run s ≡ tag_from [] s
  unfolding start_tag tag_from
  tag-from s = refl

  -- its end
  pub tag-ends : (attributes : List Attribute) (t : List ℕ) → rules.opened attributes ≡ 0 → tag_from attributes (62 ∷ t) ≡ done (record { attributes = attributes; empty = false }) t
  unfolding tag_from is_space
  tag-ends attributes t q =
      loop-last turn (record { spaced = false; attributes = attributes }) (62 ∷ t) (record { attributes = attributes; empty = false }) t (rw q)

  -- a space
  tag-space : (attributes : List Attribute) (t : List ℕ) → turn (record { spaced = false; attributes = attributes }) (32 ∷ t) ≡ done (again (record { spaced = true; attributes = attributes })) t
  unfolding is_space
  tag-space attributes t = refl

  -- the first byte of a name is a letter
  letter-turn : (attributes : List Attribute) (b : ℕ) (w : List ℕ) → is_letter b ≡ true
      → turn (record { spaced = true; attributes = attributes }) (b ∷ w) ≡ then_out ((attribute rules attributes).run (b ∷ w))
      (λ a. ret_p (again (record { spaced = false; attributes = attributes ++ a ∷ [] })))
  letter-turn attributes b w h =
      let l : 65 ≤ b = letter-big b h in
      skip (is_space b) _ _ (b ∷ w) (no-space b (omega arith))
      ∙ skip (eqb b 62) _ _ (b ∷ w) (ne_eqb b 62 (λ e. omega arith))
      ∙ skip (eqb b 47) _ _ (b ∷ w) (ne_eqb b 47 (λ e. omega arith))

  name-turn : (attributes : List Attribute) (w t : List ℕ) → is_name w ≡ true
      → turn (record { spaced = true; attributes = attributes }) (w ++ t) ≡ then_out ((attribute rules attributes).run (w ++ t))
      (λ a. ret_p (again (record { spaced = false; attributes = attributes ++ a ∷ [] })))
  unfolding is_name
  name-turn attributes [] t h = nope cc
  name-turn attributes (b ∷ w) t h = letter-turn attributes b (w ++ t) (both_true (is_letter b) (every is_name_byte w) h).0

  -- one attribute more
  pub tag-more : (attributes : List Attribute) (w v t : List ℕ) → is_name w ≡ true → quoted v ≡ true → name_fault rules attributes w ≡ 0 → rules.texts w v ≡ 0
      → tag_from attributes (32 ∷ (w ++ 61 ∷ 34 ∷ (v ++ 34 ∷ t))) ≡ tag_from (attributes ++ record { name = w; text = v } ∷ []) t
  unfolding tag_from
  tag-more attributes w v t h k f q =
      let s : List ℕ = w ++ 61 ∷ 34 ∷ (v ++ 34 ∷ t) in
      let a : Attribute = record { name = w; text = v } in
      loop-again turn (record { spaced = false; attributes = attributes }) (32 ∷ s) (record { spaced = true; attributes = attributes }) s (tag-space attributes s) (omega arith)
      ∙ loop-again turn (record { spaced = true; attributes = attributes }) s (record { spaced = false; attributes = attributes ++ a ∷ [] }) t
      (name-turn attributes w (61 ∷ 34 ∷ (v ++ 34 ∷ t)) h
      ∙ ap (λ (o : Out Attribute). then_out o (λ x. ret_p (again (record { spaced = false; attributes = attributes ++ x ∷ [] })))) (attribute-reads attributes w v t h k f q))
      (omega (arith, length-append w (61 ∷ 34 ∷ (v ++ 34 ∷ t)), length-append v (34 ∷ t)))

-- ---- end tags

pub greater-name : is_name_byte 62 ≡ false
unfolding is_name_byte is_letter is_digit
greater-name = refl

pub end_reads : (w t : List ℕ) (missing : ℕ) → is_name w ≡ true → missing ≡ 0 → (end_tag w missing).run (60 ∷ 47 ∷ w ++ 62 ∷ t) ≡ done tt t
unfolding end_tag is_space
end_reads w t missing h q =
    let a = judge-reads (λ n. cond (same n w) 0 2) (close_name.run (60 ∷ 47 ∷ w ++ 62 ∷ t)) (60 ∷ 47 ∷ w ++ 62 ∷ t) w (62 ∷ t) (close_name-reads w 62 t h greater-name) (rw (same_self w)) in
    rw (q, a, not-spaces 62 t refl)

pub only_end-reads : (w t : List ℕ) (missing : ℕ) → is_name w ≡ true → missing ≡ 0 → (only_end w missing).run (60 ∷ 47 ∷ w ++ 62 ∷ t) ≡ done tt t
unfolding only_end
only_end-reads w t missing h q =
    ap (λ (o : Out (Unit {0})). strict_out o (60 ∷ 47 ∷ w ++ 62 ∷ t)) (end_reads w t missing h q)
    ∙ ap (λ (v : Bool). cond v (done tt t) cut) (lt-ltb (length t) (length (60 ∷ 47 ∷ w ++ 62 ∷ t)) (simp length-append (omega arith)))
