-- One of some names, by a table of them. A name is whole where a byte of no name follows it.
use Rattle.std.specs.Prelude.{cond, List, [], ◌∷◌, ◌++◌, ℕ, eqb}
use Rattle.grammar.specs.Parse.{Out, done, fault, cut, Parser}
use Rattle.xml.specs.Bytes.{is_name_byte}

module _ {A : Type 0} where
  -- bytes against the name w, which stands for a: no more bytes, within the name or behind it, is cut; the name and then a byte of no name, which is not read, is a;
  -- anything else is no such name, and the answer is `other`
  abbrev pub name_or : A → Out A → List ℕ → List ℕ → Out A
  name_or a other w [] = cut
  name_or a other [] (b ∷ s) = cond (is_name_byte b) other (done a (b ∷ s))
  name_or a other (c ∷ w) (b ∷ s) = let more : Out A = name_or a other w s in cond (eqb b c) more other

  -- the bytes `lead` and one of these names behind them, each with what it stands for; else the fault k at the first byte
  abbrev pub among : List ℕ → ℕ → List (List ℕ × A) → Parser A
  among lead k [] s = fault k s
  among lead k (x ∷ l) s = name_or x.1 (among lead k l s) (lead ++ x.0) s
