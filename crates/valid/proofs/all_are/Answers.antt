use mathlib.Core.Path.{◌∙◌}
use Rattle.std.proofs.lemmas.Iterator.{YieldsList-from_slice}
use Rattle.std.proofs.lemmas.Iterator.Search.{all_from_yields_List}
use borrow.Author.Rules.{rules}
use borrow.Author.Tests.{tests}
use Rattle.valid.proofs.Laws.{every-all}
use Rattle.valid.proofs.all_are.Goals as goal

pub returns : goal.returns
returns g c =
    let xs = c.args.s.now in
    all_from_yields_List (λ y. g.T.PartialEq.eq y c.args.x) c.all.new.self _ _ c.all.ensures.ran (YieldsList-from_slice {s = c.iter.result} xs cc) (λ x b q k. search (rules, tests)) ∙ every-all _ xs
