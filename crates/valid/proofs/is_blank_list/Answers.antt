use mathlib.Core.Path.{◌∙◌, ap}
use Prim.Native.Nat.{ℕ}
use borrow.Author.Tests.{eq-eqb, ne_eqb}
use lib.ListN.{drop}
use Rattle.valid.specs.Valid.{is_blank_list, is_blank, every}
use Rattle.valid.proofs.is_blank_list.Goals as goal

pub returns-then-list-eq0 : goal.returns-then-list-eq0
unfolding is_blank_list
returns-then-list-eq0 c =
    let z = c.if-list-eq0.true in
    let l = c.args.list in
    simp (eq-eqb _ _ z) (c.blank_behind.ensures ∙ ap (λ (n : ℕ). every is_blank (drop n l.nodes)) z)

pub returns-else-list-eq0 : goal.returns-else-list-eq0
unfolding is_blank_list
returns-else-list-eq0 c = simp (ne_eqb _ _ c.if-list-eq0.false)
