-- Text-only elements. Assumes nothing.
use mathlib.Core.List.{List}
use Prim.Native.Nat.{ℕ}
use Rattle.grammar.specs.Parse.{Parser}
use Rattle.grammar.specs.Grammar.{ret, seq}
use mathlib.Core.Bool.{cond}
use Rattle.xml.specs.Xml.{Tag, plain, start_tag, text_to}
use Rattle.xml.specs.Elements.{only_end, text_content, text_element}
use Rattle.xml.specs.Code.{part, Reads, no_value, Failed}
use Rattle.xml.specs.CodeLaws.{reads_then, reads-failed}
use Rattle.xml.specs.Code.{Scan}
use Rattle.std.specs.Prelude.{Ok}

module _ (w : List ℕ) (s : List ℕ) (at : ℕ) where
  abbrev closed : (Unit {0}) × List ℕ → Parser (Unit {0})
  closed t = (only_end w 0).run

  pub content-failed : (r : Scan) → Failed r → Reads 0 (text_to 60).run (λ e. (tt, part s at e)) s at r → Reads 1 (text_content w).run no_value s at r
  unfolding text_content
  content-failed r f v = reads-failed (text_to 60).run (λ e. (tt, part s at e)) closed no_value s at 0 1 r f v

  pub content-closed : (e : ℕ) (r : Scan) → Reads 0 (text_to 60).run (λ e. (tt, part s at e)) s at (Ok e) → Reads 1 (only_end w 0).run no_value s e r
      → Reads 1 (text_content w).run no_value s at r
  unfolding text_content
  content-closed e r v u = reads_then (text_to 60).run (λ e. (tt, part s at e)) closed no_value s at 0 1 e r v u

  -- the element itself
  pub text-rest : (r : Scan) → Reads 1 (seq (start_tag plain) (λ (tag : Tag). cond tag.empty (ret tt) (text_content w))).run no_value s at r
      → Reads 1 (text_element w).run no_value s at r
  unfolding text_element
  text-rest r v = v
