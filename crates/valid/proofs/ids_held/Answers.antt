use mathlib.Core.Path.{◌∙◌}
use Rattle.std.proofs.lemmas.Iterator.{YieldsList-from_slice}
use Rattle.std.proofs.lemmas.Iterator.Search.{all_from_yields_List}
use borrow.Author.Rules.{rules}
use Rattle.valid.specs.Valid.{id_held}
use Rattle.valid.proofs.Laws.{every-all}
use Rattle.valid.proofs.ids_held.Goals as goal

pub returns : goal.returns
returns c =
    let ns = c.args.nodes.now in
    all_from_yields_List id_held c.all.new.self _ _ c.all.ensures.ran (YieldsList-from_slice {s = c.iter.result} ns cc) (λ x b q k. search rules) ∙ every-all id_held ns
