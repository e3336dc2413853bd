-- What stands behind the start tag of an element that keeps no value: nothing, or its content. Assumes nothing.
use mathlib.Core.Path.{◌≡◌, refl}
use mathlib.Core.Bool.{true, false, cond}
use mathlib.Core.List.{List}
use Prim.Native.Nat.{ℕ}
use native.Mathlib.Omega.{arith}
use Rattle.grammar.specs.Parse.{Parser, bind_p, ret_p}
use Rattle.grammar.specs.Grammar.{G, ret}
use Rattle.xml.specs.Xml.{Tag, plain, start_tag}
use Rattle.xml.specs.Code.{Reads, no_value}
use Rattle.xml.specs.CodeLaws.{reads-fewer, reads_then, reads-failed}
use Rattle.xml.specs.Code.{Scan}
use Rattle.std.specs.Prelude.{Ok, Err}
use Rattle.xml.specs.declared.Stop.{Stop}
use Rattle.tags.specs.Ended.{EndsAs, tag_read, ends_open, ends-empty, ends-failed}
use Rattle.tags.specs.declared.TagEnd.{TagEnd}
use Rattle.tags.specs.declared.TagEnd.TheVariants as Ends

module _ (content : G (Unit {0})) (s : List ℕ) (at : ℕ) where
  abbrev rest : Tag → Parser (Unit {0})
  rest tag = (cond tag.empty (ret tt) content).run

  abbrev Rest : Scan → Type 0
  Rest r = Reads 1 (bind_p (start_tag plain).run rest) no_value s at r

  pub rest-failed : (x : Stop) → EndsAs plain s at (Err x) → Rest (Err x)
  rest-failed x v = reads-failed (start_tag plain).run (λ i. tag_read plain s at false) rest no_value s at 1 1 (Err x) tt (ends-failed plain s at (λ i. tag_read plain s at false) x v)

  module _ (end : TagEnd) (v : EndsAs plain s at (Ok end)) where
    pub rest-open : (e : ℕ) (r : Scan) → end ≡ Ends.Open e → Reads 1 content.run no_value s e r → Rest r
    rest-open e r q u =
        reads-fewer (bind_p (start_tag plain).run rest) no_value s at 2 1 r (omega arith)
        (reads_then (start_tag plain).run (λ i. tag_read plain s at false) rest no_value s at 1 1 e r (ends_open plain s at end v e q) u)

    pub rest-empty : (e : ℕ) → end ≡ Ends.Empty e → Rest (Ok e)
    rest-empty e q =
        let u : Reads 1 (start_tag plain).run (λ i. tag_read plain s at true) s at (Ok e) = ends-empty plain s at end v e q in
        let z : Reads 0 (ret_p tt) no_value s e (Ok e) = record { out = refl; inside = (omega arith, u.inside.1) } in
        reads_then (start_tag plain).run (λ i. tag_read plain s at true) rest no_value s at 1 0 e (Ok e) u z
