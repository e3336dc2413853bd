use Prim.Native.Nat.{◌+◌}
use native.Mathlib.Omega.{arith}
use mathlib.Core.Path.{◌≡◌, sym, ap, ◌∙◌}
use mathlib.Core.List.{List}
use borrow.Author.Rules.{rules}
use borrow.Author.Tests.{tests}
use lib.ListN.{drop}
use Rattle.std.proofs.Common.{Option}
use Rattle.std.specs.List.{position, zip}
use Rattle.std.proofs.lemmas.Iterator.{YieldsList-from_slice, YieldsList-from_zip}
use Rattle.std.proofs.lemmas.Iterator.Adapters.{YieldsList-from_skip}
use Rattle.std.proofs.lemmas.Iterator.Search.{position_from_yields_List}
use Rattle.process_list.specs.declared.Node.{Node}
use Rattle.process_list.specs.List.{same_depth, first_differs}
use Rattle.process_list.proofs.Laws.{apart, numbered, first-zip}
use Rattle.process_list.proofs.first_differs.Goals as goal

-- by what the nodes side by side say
side_by_side : (ns : List Node) (r : Option _) → r ≡ position apart (zip ns (drop 1 ns)) → numbered 2 r ≡ first_differs ns
side_by_side ns r e = ap (numbered 2) e ∙ sym (first-zip ns)

pub returns-in_err-k-clause-number : goal.returns-in_err-k-clause-number
unfolding same_depth
returns-in_err-k-clause-number c =
    let ns = c.args.nodes.now in
    let a : c.zip.result.a.rest.now ≡ ns = cc in
    let b : c.zip.result.b.iter.rest.now ≡ ns = cc in
    let one : c.zip.result.b.n ≡ 1 = cc in
    let z = YieldsList-from_zip {s = c.zip.result} (YieldsList-from_slice {s = c.zip.result.a} ns a) (YieldsList-from_skip {s = c.zip.result.b} 1 (YieldsList-from_slice {s = c.zip.result.b.iter} ns b) one) in
    let e = side_by_side ns _ (position_from_yields_List apart c.position.new.self _ _ c.position.ensures.ran z (λ x b q k. search (rules, tests))) in
    rw c.from_residual.ensures (rw c.in_err-k.was at e)

pub returns-clause-number : goal.returns-clause-number
unfolding same_depth
returns-clause-number c =
    let ns = c.args.nodes.now in
    let a : c.zip.result.a.rest.now ≡ ns = cc in
    let b : c.zip.result.b.iter.rest.now ≡ ns = cc in
    let one : c.zip.result.b.n ≡ 1 = cc in
    let z = YieldsList-from_zip {s = c.zip.result} (YieldsList-from_slice {s = c.zip.result.a} ns a) (YieldsList-from_skip {s = c.zip.result.b} 1 (YieldsList-from_slice {s = c.zip.result.b.iter} ns b) one) in
    let e = side_by_side ns _ (position_from_yields_List apart c.position.new.self _ _ c.position.ensures.ran z (λ x b q k. search (rules, tests))) in
    let f : 2 + c.in_ok-k.k ≡ first_differs ns = rw c.in_ok-k.was at e in
    omega arith
