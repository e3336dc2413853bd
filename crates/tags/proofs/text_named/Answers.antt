use mathlib.Core.Path.{◌≡◌}
use borrow.Author.Rules.{rules}
use borrow.Author.Tests.{tests}
use Rattle.std.proofs.lemmas.Iterator.{YieldsList-from_slice, YieldsList-from_take}
use Rattle.std.proofs.lemmas.Iterator.Search.{find_from_yields_List}
use Rattle.tags.specs.Code.{text_named}
use Rattle.tags.proofs.Lists.{test, found-map}
use Rattle.tags.proofs.text_named.Goals as goal

pub returns : goal.returns
unfolding text_named
returns c =
    let l = c.args.attributes.now.held in
    let a : c.take.result.iter.rest.now ≡ l = cc in
    let n : c.take.result.n ≡ c.args.attributes.now.count = cc in
    let z = YieldsList-from_take {s = c.take.result} c.args.attributes.now.count (YieldsList-from_slice {s = c.take.result.iter} l a) n in
    let e = find_from_yields_List (test c.args.s.now c.args.w.now) c.find.new.self _ _ c.find.ensures.ran z (λ x b q k. search (rules, tests)) in
    found-map (λ a. a.text) (λ x. x.now) _ _ _ _ c.map.ensures.cases (λ x y q. search rules) e
