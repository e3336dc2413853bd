use mathlib.Core.Path.{ap}
use Prim.Native.Nat.{ℕ, ◌+◌}
use native.Mathlib.Omega.{arith}
use Rattle.cdl_node.proofs.Inner.{base-nine, inner-refused, inner-goes}
use Rattle.cdl_node.proofs.inner_child.Goals as goal

pub returns-then-k-ne0 : goal.returns-then-k-ne0
returns-then-k-ne0 c =
    λ m₀ l v. inner-refused c.args.part _ _ _ _ c.part-w.ensures c.requires.0 c.requires.1 _ _ c.inner_fault-k.ensures m₀ _ l v _ c.if-k-ne0.true

pub overflow_add-base : goal.overflow_add-base
overflow_add-base c = omega (arith, c.inner_base.ensures, base-nine c.args.part, c.requires.2)

pub returns : goal.returns
returns c =
    λ m₀ l v. inner-goes c.args.part _ _ _ _ c.part-w.ensures c.requires.0
    c.requires.1 _ _ c.inner_fault-k.ensures m₀ _ l v c.if-k-ne0.false _ _ _ _ _ c.inner_width-n.ensures c.inner_rule-rule.ensures
    (ap (λ (n : ℕ). n + c.args.count) c.inner_base.ensures) c.value_element.ensures
