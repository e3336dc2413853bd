use mathlib.Core.Path.{◌≡◌, sym, ap, ◌∙◌}
use Prim.Native.Nat.{ℕ, ◌<◌, ◌≤◌, min}
use native.Mathlib.Omega.{arith}
use lib.ListN.{length}
use Rattle.std.proofs.lemmas.Bool.Decides.{nat_tests}
use Rattle.std.proofs.Common.{Err}
use Rattle.process_list.proofs.Laws.{under-capped, capped-under, nodes-few, judged-none, judged-differs, judged-seen, judged-over, judged-fine}
use Rattle.process_list.specs.declared.Unfit.TheVariants.{DepthDiffers, IdSeen}
use Rattle.process_list.specs.List.{Verdict, total, nodes_of, most_numbers, first_differs, first_repeat}
use Rattle.process_list.proofs.judge.Goals as goal

pub returns-then-is_empty : goal.returns-then-is_empty
returns-then-is_empty c =
    let e : length (nodes_of c.args.list) ≡ 0 = grind (arith, nat_tests, ap length c.nodes_of-nodes.ensures) in
    simp c.if-over.false (sym (judged-none _ _ e))

pub returns-in-Some : goal.returns-in-Some
returns-in-Some c =
    let ns = nodes_of c.args.list in
    let n : length c.args.list.nodes ≡ 32 = search arith in
    let some : 0 < length ns = grind (arith, nat_tests, ap length c.nodes_of-nodes.ensures) in
    let e : c.in-Some.node ≡ first_differs ns = c.in-Some.ensures.number ∙ ap first_differs c.nodes_of-nodes.ensures in
    let p : 0 < c.in-Some.node = c.in-Some.ensures.some in
    simp c.if-over.false (ap {B = Verdict} (λ (k : ℕ). Err (DepthDiffers k)) e ∙ sym (judged-differs _ ns some (nodes-few _ n) (omega arith)))

pub returns-in-Some-first_repeat : goal.returns-in-Some-first_repeat
returns-in-Some-first_repeat c =
    let ns = nodes_of c.args.list in
    let n : length c.args.list.nodes ≡ 32 = search arith in
    let some : 0 < length ns = grind (arith, nat_tests, ap length c.nodes_of-nodes.ensures) in
    let z : 0 ≡ first_differs ns = c.in_default.ensures.number ∙ ap first_differs c.nodes_of-nodes.ensures in
    let e : c.in-Some-first_repeat.node ≡ first_repeat ns = c.in-Some-first_repeat.ensures.number ∙ ap first_repeat c.nodes_of-nodes.ensures in
    let p : 0 < c.in-Some-first_repeat.node = c.in-Some-first_repeat.ensures.some in
    simp c.if-over.false (ap {B = Verdict} (λ (k : ℕ). Err (IdSeen k)) e ∙ sym (judged-seen _ ns some (nodes-few _ n) (omega arith) (omega arith)))

pub returns-then-limit-used : goal.returns-then-limit-used
returns-then-limit-used c =
    let ns = nodes_of c.args.list in
    let n : length c.args.list.nodes ≡ 32 = search arith in
    let some : 0 < length ns = grind (arith, nat_tests, ap length c.nodes_of-nodes.ensures) in
    let z : 0 ≡ first_differs ns = c.in_default.ensures.number ∙ ap first_differs c.nodes_of-nodes.ensures in
    let y : 0 ≡ first_repeat ns = c.in_default-first_repeat.ensures.number ∙ ap first_repeat c.nodes_of-nodes.ensures in
    let h : min c.args.room most_numbers < total ns = under-capped _ _ (omega arith) (omega arith) in
    simp c.if-over.false (sym (judged-over _ _ some (nodes-few _ n) (omega arith) (omega arith) h))

pub returns : goal.returns
returns c =
    let ns = nodes_of c.args.list in
    let n : length c.args.list.nodes ≡ 32 = search arith in
    let some : 0 < length ns = grind (arith, nat_tests, ap length c.nodes_of-nodes.ensures) in
    let z : 0 ≡ first_differs ns = c.in_default.ensures.number ∙ ap first_differs c.nodes_of-nodes.ensures in
    let y : 0 ≡ first_repeat ns = c.in_default-first_repeat.ensures.number ∙ ap first_repeat c.nodes_of-nodes.ensures in
    let h : total ns ≤ min c.args.room most_numbers = capped-under _ _ (omega arith) (omega arith) in
    simp c.if-over.false (sym (judged-fine _ _ some (nodes-few _ n) (omega arith) (omega arith) h))
