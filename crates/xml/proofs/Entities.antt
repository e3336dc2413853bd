-- Names of a table, and `&` forms. Assumes nothing.
use mathlib.Core.Path.{◌≡◌, refl, sym, ap, ◌∙◌}
use mathlib.Core.Bool.{Bool, true, false, cond}
use mathlib.Core.List.{List, [], ◌∷◌}
use mathlib.Core.Logic.{inl, inr}
use Prim.Native.Nat.{ℕ, ◌+◌, ◌≤◌, ◌<◌}
use Prim.Native.Char.{code}
use native.Mathlib.Omega.{arith}
use lib.Dec.{eqb, leb}
use lib.ListN.{length, get_or, drop}
use borrow.Author.Tests.{leb-true, leb-false}
use Rattle.scanning.specs.Steps.{here, past}
use Rattle.grammar.specs.Parse.{Out, done, fault, cut, Parser, then_out, eat_p, bind_p, judged_to}
use Rattle.grammar.specs.Grammar.{eat, ◌>>◌}
use Rattle.xml.specs.Bytes.{is_name_byte}
use Rattle.xml.specs.Among.{name_or, among}
use Rattle.xml.specs.Xml.{byte, word, one_of, entity_names, entity-names, entity}
use Rattle.xml.specs.Code.{scan_out, Inside, Reads, ReadsFrom, NameOr, no_value, blamed_scan, Failed, entity_found}
use Rattle.xml.specs.CodeLaws.{reads-ended, reads-fewer, reads-blame, reads-eat, reads_then, reads-failed, reads-ret}
use Rattle.xml.specs.Code.{Scan}
use Rattle.std.specs.Prelude.{Ok, Err}
use Rattle.xml.specs.declared.Stop.TheVariants.{Fault, Cut}

abbrev out_of : List ℕ → Scan → Out (Unit {0})
out_of s r = scan_out no_value s r

-- ---- the end of a name

module _ (s : List ℕ) (at : ℕ) (other : Scan) where
  -- the bytes have ended
  pub end-cut : length s ≤ at → NameOr s at [] other (Err Cut)
  end-cut h = record { out = sym (ap (name_or tt (out_of s other) []) (past s at h)); inside = λ from k i. tt; told = inr tt }

  module _ (h : at < length s) where
    end_by : (t : Bool) → is_name_byte (get_or s at 0) ≡ t → name_or tt (out_of s other) [] (drop at s) ≡ cond t (out_of s other) (done tt (drop at s))
    end_by t q = rw (here s at h, q)

    pub end-goes-on : is_name_byte (get_or s at 0) ≡ true → NameOr s at [] other other
    end-goes-on q = record { out = sym (end_by true q); inside = λ from k i. i; told = inl refl }

    pub end-ended : is_name_byte (get_or s at 0) ≡ false → NameOr s at [] other (Ok at)
    end-ended q = record { out = sym (end_by false q); inside = λ from k i. (omega arith, omega arith); told = inr h }

-- ---- a name

-- a word's answer, and what stands behind it
abbrev behind_or : Out (Unit {0}) → Out (Unit {0}) → Out (Unit {0})
behind_or o (done u r) = name_or tt o [] r
behind_or o (fault k r) = o
behind_or o cut = cut

word-or : (o : Out (Unit {0})) (w s : List ℕ) → name_or tt o w s ≡ behind_or o ((word w 1).run s)
word-or o [] s = refl
word-or o (c ∷ w) [] = refl
word-or o (c ∷ w) (b ∷ s) = go (eqb b c) (word-or o w s)
  where
    go : (v : Bool) → name_or tt o w s ≡ behind_or o ((word w 1).run s)
        → cond v (name_or tt o w s) o ≡ behind_or o (then_out (judged_to (cond v 0 1) b s (b ∷ s)) (λ x. (word w 1).run))
    go true e = e
    go false e = refl

module _ (s : List ℕ) (at : ℕ) (w : List ℕ) (other : Scan) where
  by_word : (o : Out (Unit {0})) → o ≡ (word w 1).run (drop at s) → behind_or (out_of s other) o ≡ name_or tt (out_of s other) w (drop at s)
  by_word o v = ap (behind_or (out_of s other)) v ∙ sym (word-or (out_of s other) w (drop at s))

  later : (e : ℕ) → ReadsFrom (length w) (word w 1).run no_value s at (Ok e) → at ≤ e
  later e v = go (leb at (length s)) refl
    where
      go : (t : Bool) → leb at (length s) ≡ t → at ≤ e
      go true q = let i : Inside (length w) s at (Ok e) = v.inside (leb-true at (length s) q) in omega arith
      go false q = let i : e ≡ at = v.beyond (leb-false at (length s) q) in omega arith

  -- the word stands there
  pub word-stood : (e : ℕ) (r : Scan) → ReadsFrom (length w) (word w 1).run no_value s at (Ok e) → NameOr s e [] other r → NameOr s at w other r
  word-stood e r v x = record { out = x.out ∙ by_word (done tt (drop e s)) v.out; inside = λ from k i. x.inside from (omega (arith, later e v)) i; told = x.told }

  -- another byte stands there
  pub word-differed : (k q : ℕ) → ReadsFrom (length w) (word w 1).run no_value s at (Err (Fault k q)) → NameOr s at w other other
  word-differed k q v = record { out = by_word (fault k (drop q s)) v.out; inside = λ from m i. i; told = inl refl }

  -- the bytes end in it
  pub word-ended : ReadsFrom (length w) (word w 1).run no_value s at (Err Cut) → NameOr s at w other (Err Cut)
  word-ended v = record { out = by_word cut v.out; inside = λ from k i. tt; told = inr tt }

-- ---- the names of `&` forms

-- one name more, before those of p
pub more-names : (p : Parser (Unit {0})) (s : List ℕ) (at : ℕ) (w : List ℕ) (other r : Scan) → Reads 0 p no_value s at other → NameOr s at w other r
    → Reads 0 (λ t. name_or tt (p t) w t) no_value s at r
more-names p s at w other r v x = record { out = x.out ∙ ap (λ (o : Out (Unit {0})). name_or tt o w (drop at s)) v.out; inside = x.inside at (omega arith) v.inside }

pub no_names : (s : List ℕ) (at k : ℕ) → at ≤ length s → Reads 0 (λ t. fault k t) no_value s at (Err (Fault k at))
no_names s at k h = record { out = refl; inside = (omega arith, omega arith) }

-- ---- an `&` form

module _ (s : List ℕ) (at : ℕ) where
  pub entity-cut : length s ≤ at → Reads 1 entity.run no_value s at (Err Cut)
  unfolding entity
  entity-cut h = reads-ended entity.run no_value s at 1 refl h

  -- a fault in it has its first byte for a place
  pub entity-blamed : (r : Scan) → Reads 1 entity_found no_value s at r → Reads 1 entity.run no_value s at (blamed_scan r at)
  unfolding entity
  entity-blamed r v = reads-blame entity_found no_value s at 1 r v

  module _ (h : at < length s) where
    abbrev named : Parser (Unit {0})
    named = (eat >> one_of [] 3 entity_names entity-names).run

    by_name : (r : Scan) → Reads 0 (among [] 3 entity_names) no_value s (at + 1) r → Reads 1 named no_value s at r
    by_name r v = reads_then eat_p (λ e. get_or s at 0) (λ b. among [] 3 entity_names) no_value s at 1 0 (at + 1) r (reads-eat s at h) v

    -- no name
    pub entity-none : (r : Scan) → Failed r → Reads 0 (among [] 3 entity_names) no_value s (at + 1) r → Reads 1 entity_found no_value s at r
    entity-none r f v =
        reads-ret (bind_p named (λ u. (byte (code ";") 3).run)) (λ e. 0) tt s at 1 r (reads-failed named no_value (λ u. (byte (code ";") 3).run) (λ e. 0) s at 1 1 r f (by_name r v))

    -- a name, and what stands behind it
    pub entity-named : (e : ℕ) (r : Scan) → Reads 0 (among [] 3 entity_names) no_value s (at + 1) (Ok e) → Reads 1 (byte (code ";") 3).run (λ i. get_or s e 0) s e r
        → Reads 1 entity_found no_value s at r
    entity-named e r v w =
        reads-ret (bind_p named (λ u. (byte (code ";") 3).run)) (λ i. get_or s e 0) tt s at 1 r
        (reads-fewer (bind_p named (λ u. (byte (code ";") 3).run)) (λ i. get_or s e 0) s at 2 1 r (omega arith)
        (reads_then named no_value (λ u. (byte (code ";") 3).run) (λ i. get_or s e 0) s at 1 1 e r (by_name (Ok e) v) w))
