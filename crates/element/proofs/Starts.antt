-- The start of an element, word by word. Assumes nothing.
use mathlib.Core.Path.{◌≡◌, refl, sym, ap, ◌∙◌}
use mathlib.Core.Bool.{Bool, true, false, cond}
use mathlib.Core.List.{List, [], ◌∷◌}
use Prim.Native.Nat.{ℕ}
use native.Mathlib.Omega.{arith}
use lib.Dec.{eqb}
use lib.ListN.{drop}
use Rattle.grammar.specs.Parse.{Out, done, fault, cut, Parser}
use Rattle.xml.specs.Bytes.{is_name_byte}
use Rattle.xml.specs.Among.{name_or}
use Rattle.xml.specs.Code.{scan_out, NameOr, no_value}
use Rattle.xml.specs.Code.{Scan}
use Rattle.std.specs.Prelude.{Ok, Err}
use Rattle.xml.specs.declared.Stop.TheVariants.{Fault, Cut}
use Rattle.clf.specs.Nodes.{NodeName}
use Rattle.nodes.specs.Code.{name_of}
use Rattle.nodes.specs.declared.NodeName as Code
use Rattle.element.specs.Code.{Start, start_out, StartOr, StartReads}

-- ---- a word

-- the answer for a word that stands for nothing, as that for a word that stands for n
abbrev as_or : NodeName → Out NodeName → Out (Unit {0}) → Out NodeName
as_or n o (done u r) = done n r
as_or n o (fault k r) = o
as_or n o cut = cut

as-or : (n : NodeName) (o : Out NodeName) (k : ℕ) (p w s : List ℕ) → name_or n o w s ≡ as_or n o (name_or tt (fault k p) w s)
as-or n o k p w [] = refl
as-or n o k p [] (b ∷ s) = go (is_name_byte b)
  where
    go : (v : Bool) → cond v o (done n (b ∷ s)) ≡ as_or n o (cond v (fault k p) (done tt (b ∷ s)))
    go true = refl
    go false = refl
as-or n o k p (c ∷ w) (b ∷ s) = go (eqb b c) (as-or n o k p w s)
  where
    go : (v : Bool) → name_or n o w s ≡ as_or n o (name_or tt (fault k p) w s) → cond v (name_or n o w s) o ≡ as_or n o (cond v (name_or tt (fault k p) w s) (fault k p))
    go true e = e
    go false e = refl

module _ (s w : List ℕ) (n : NodeName) (other : Start) where
  by_word : (r : Scan) → NameOr s 0 w (Err (Fault 20 0)) r → as_or n (start_out s other) (scan_out no_value s r) ≡ name_or n (start_out s other) w s
  by_word r v = ap (as_or n (start_out s other)) v.out ∙ sym (as-or n (start_out s other) 20 s w s)

  -- the word stands there
  pub word-stood : (e : ℕ) (name : Code.NodeName) → name_of name ≡ n → NameOr s 0 w (Err (Fault 20 0)) (Ok e) → StartOr s n w other (Ok (e, name))
  word-stood e name q v = record {
    out = ap (λ (m : NodeName). done m (drop e s)) q ∙ by_word (Ok e) v;
    inside = λ i. v.inside 0 (omega arith) (omega arith, omega arith);
  }

  -- it does not
  pub word-differed : (k q : ℕ) → NameOr s 0 w (Err (Fault 20 0)) (Err (Fault k q)) → StartOr s n w other other
  word-differed k q v = record { out = by_word (Err (Fault k q)) v; inside = λ i. i }

  -- the bytes end in it
  pub word_cut : NameOr s 0 w (Err (Fault 20 0)) (Err Cut) → StartOr s n w other (Err Cut)
  word_cut v = record { out = by_word (Err Cut) v; inside = λ i. tt }

-- ---- the names

-- one name more, before those of p
pub more-names : (p : Parser NodeName) (s w : List ℕ) (n : NodeName) (other r : Start) → StartReads p s other → StartOr s n w other r
    → StartReads (λ t. name_or n (p t) w t) s r
more-names p s w n other r v x = record { out = x.out ∙ ap (λ (o : Out NodeName). name_or n o w s) v.out; inside = x.inside v.inside }

pub no_names : (s : List ℕ) → StartReads (λ t. fault 20 t) s (Err (Fault 20 0))
no_names s = record { out = refl; inside = (omega arith, omega arith) }
