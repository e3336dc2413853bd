use mathlib.Core.Path.{◌≡◌, ◌∙◌}
use borrow.Author.Rules.{rules}
use native.Mathlib.Omega.{arith}
use Rattle.std.specs.List.{list_all}
use Rattle.std.proofs.lemmas.Bool.Decides.{nat_tests}
use Rattle.ids.specs.Ids.{is_id_byte, id_right}
use Rattle.std.proofs.lemmas.Iterator.{YieldsList-from_slice}
use Rattle.std.proofs.lemmas.Iterator.Search.{all_from_yields_List}
use Rattle.ids.proofs.Laws.{all-bytes}
use Rattle.ids.proofs.id_right.Goals as goal

pub returns-then-text-most : goal.returns-then-text-most
unfolding id_right
returns-then-text-most c =
    let t = c.args.text.now in
    let e : c.all.result ≡ list_all is_id_byte t = all_from_yields_List is_id_byte _ _ _ c.all.ensures.ran (YieldsList-from_slice t cc) (λ x b q k. search rules) in
    let f = e ∙ all-bytes _ in
    grind (arith, nat_tests, f)

pub returns-else-text-most : goal.returns-else-text-most
unfolding id_right
returns-else-text-most c = grind (arith, nat_tests)
