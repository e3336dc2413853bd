use mathlib.Core.Path.{◌≡◌, ◌∙◌, ap}
use borrow.Author.Rules.{rules}
use borrow.Author.Tests.{tests}
use Prim.Native.Nat.{ℕ}
use lib.Dec.{eqb}
use lib.ListN.{length}
use Rattle.std.specs.List.{position}
use Rattle.std.specs.Option.{unwrap_or}
use Rattle.std.proofs.lemmas.Iterator.{YieldsList-from_slice}
use Rattle.std.proofs.lemmas.Iterator.Search.{position_from_yields_List}
use Rattle.ids.proofs.Laws.{first_zero}
use Rattle.ids.proofs.length_of.Goals as goal

pub returns : goal.returns
returns c =
    let t = c.args.places.now in
    let e : c.position.result ≡ position (λ (b : ℕ). eqb b 0) t = position_from_yields_List (λ (b : ℕ). eqb b 0) _ _ _ c.position.ensures.ran (YieldsList-from_slice t cc) (λ x b q k. search (rules, tests)) in
    c.unwrap_or.ensures ∙ ap (λ r. unwrap_or r (length t)) e ∙ first_zero t
