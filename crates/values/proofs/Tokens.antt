-- A token, as the code reads and judges it. Assumes nothing.
use mathlib.Core.Path.{◌≡◌, sym, ap, ◌∙◌}
use mathlib.Core.Bool.{Bool, true, false, ◌||◌}
use mathlib.Core.List.{List}
use Prim.Native.Nat.{ℕ}
use lib.Dec.{eqb}
use borrow.Author.Tests.{eq-eqb, ne_eqb}
use Rattle.std.specs.Prelude.{Ok, Err}
use Rattle.grammar.specs.Laws.{nope}
use Rattle.xml.specs.Bytes.{is_space}
use Rattle.xml.specs.Xml.{text}
use Rattle.xml.specs.Code.{part, Reads, Failed}
use Rattle.xml.specs.Code.{Scan}
use Rattle.xml.specs.declared.Stop.TheVariants.{Fault, Cut}
use Rattle.clf.specs.Numbers.{ends_token, token}
use Rattle.values.specs.Code.{Ended, TokenBytes}

-- ---- the byte that ends a token

pub ends-neither : (b : ℕ) → is_space b ≡ false → (b ≡ 60 → ⊥) → ends_token b ≡ false
ends-neither b q h = rw (q, ne_eqb b 60 h)

pub not-less : (b : ℕ) → ends_token b ≡ false → b ≡ 60 → ⊥
not-less b q e = let z : eqb b 60 ≡ true = eq-eqb b 60 e in go (is_space b) (ap (λ (t : Bool). is_space b || t) (sym z) ∙ q)
  where
    go : (t : Bool) → t || true ≡ false → ⊥
    go true h = nope cc
    go false h = nope cc

pub token-bytes : (s : List ℕ) (at : ℕ) (r : Scan) → Reads 0 (text ends_token).run (λ e. (tt, part s at e)) s at r → Ended s r → TokenBytes s at r
unfolding token
token-bytes s at r v h = record { reads = v; ended = h }

pub token-failed : (s : List ℕ) (at : ℕ) (r : Scan) → Reads 0 (text ends_token).run (λ e. (tt, part s at e)) s at r → Failed r → TokenBytes s at r
token-failed s at (Ok e) v h = absurd h
token-failed s at (Err (Fault k p)) v h = token-bytes s at (Err (Fault k p)) v tt
token-failed s at (Err Cut) v h = token-bytes s at (Err Cut) v tt
