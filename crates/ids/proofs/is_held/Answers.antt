use mathlib.Core.Path.{◌≡◌, ◌∙◌, ap}
use borrow.Author.Rules.{rules}
use native.Mathlib.Omega.{arith}
use lib.Dec.{eqb}
use lib.ListN.{length, drop, length-drop}
use lib.Seq.{take_all}
use Rattle.std.specs.List.{list_all}
use borrow.Author.Tests.{tests}
use Prim.Native.Nat.{ℕ}
use Rattle.std.proofs.lemmas.Iterator.{YieldsList-from_slice}
use Rattle.std.proofs.lemmas.Iterator.Search.{all_from_yields_List}
use Rattle.ids.proofs.Laws.{text-short, held-is}
use Rattle.ids.proofs.is_held.Goals as goal

pub slice_bounds-iter-count : goal.slice_bounds-iter-count
slice_bounds-iter-count c =
    let n : length c.args.places ≡ 32 = search arith in
    omega (arith, text-short c.args.places)

pub slice_bounds-iter-start : goal.slice_bounds-iter-start
slice_bounds-iter-start c =
    let n : length c.args.places ≡ 32 = search arith in
    omega (arith, text-short c.args.places)

pub returns : goal.returns
returns c =
    let t = drop c.length_of.result c.args.places in
    let n : length c.args.places ≡ 32 = search arith in
    let m : c.iter.result.rest.now ≡ t = c.iter.ensures.rest ∙ take_all _ t (simp length-drop (omega arith)) in
    let e : c.all.result ≡ list_all (λ (b : ℕ). eqb b 0) t = all_from_yields_List (λ (b : ℕ). eqb b 0) _ _ _ c.all.ensures.ran (YieldsList-from_slice t m) (λ x b q k. search (rules, tests)) in
    e ∙ ap (λ k. list_all (λ (b : ℕ). eqb b 0) (drop k c.args.places)) c.length_of.ensures ∙ held-is _ n
