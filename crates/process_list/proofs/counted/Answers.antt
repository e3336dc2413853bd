use mathlib.Core.Path.{ap, ◌∙◌}
use Prim.Native.Nat.{ℕ, ◌+◌}
use native.Mathlib.Omega.{arith}
use Rattle.process_list.specs.List.{capped, numbers_of}
use Rattle.process_list.proofs.Laws.{add-capped as capped-sum, capped-most}
use Rattle.process_list.proofs.counted.Goals as goal

pub returns-then-used-gt-MOST_NUMBERS : goal.returns-then-used-gt-MOST_NUMBERS
unfolding capped
returns-then-used-gt-MOST_NUMBERS c = omega arith

pub overflow_add-used : goal.overflow_add-used
overflow_add-used c = omega (arith, capped-most (numbers_of c.args.kind))

pub returns : goal.returns
returns c =
    let a = c.args in
    c.capped.ensures ∙ ap (λ (n : ℕ). capped (a.used + n)) c.numbers_of.ensures ∙ capped-sum a.used (numbers_of a.kind)
