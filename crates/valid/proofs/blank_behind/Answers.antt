use mathlib.Core.Path.{◌≡◌, ◌∙◌}
use native.Mathlib.Omega.{arith}
use lib.ListN.{length, drop, length-drop}
use lib.Seq.{take_all}
use Rattle.std.proofs.lemmas.Iterator.{YieldsList-from_slice}
use Rattle.std.proofs.lemmas.Iterator.Search.{all_from_yields_List}
use borrow.Author.Rules.{rules}
use Rattle.valid.specs.Valid.{is_blank}
use Rattle.valid.proofs.Laws.{every-all}
use Rattle.valid.proofs.blank_behind.Goals as goal

pub returns : goal.returns
returns c =
    let xs = drop c.args.list.count c.args.list.nodes in
    let n : length c.args.list.nodes ≡ 32 = search arith in
    let m : c.iter.result.rest.now ≡ xs = c.iter.ensures.rest ∙ take_all _ xs (simp length-drop (omega arith)) in
    all_from_yields_List is_blank c.all.new.self _ _ c.all.ensures.ran (YieldsList-from_slice {s = c.iter.result} xs m) (λ x b q k. search rules) ∙ every-all is_blank xs
