use mathlib.Core.Path.{◌≡◌, sym, ap, ◌∙◌}
use mathlib.Core.List.{List}
use Prim.Native.Nat.{ℕ}
use lib.ListN.{length, take}
use native.Mathlib.Omega.{arith}
use borrow.Author.Tests.{eq-eqb}
use Rattle.ids.specs.Ids.{id_right, id_text}
use Rattle.ids.proofs.Laws.{text-front, allowed-none, allowed-some}
use Rattle.ids.proofs.allowed.Goals as goal

-- the places as far as the id goes
front : (p : List ℕ) (n : ℕ) → n ≡ length (id_text p) → take n p ≡ id_text p
front p n e = ap (λ k. take k p) e ∙ text-front p

pub returns-then-n-eq0 : goal.returns-then-n-eq0
returns-then-n-eq0 c = simp (eq-eqb _ _ c.if-n-eq0.true) (allowed-none _ (omega arith))

pub slice_bounds-id_right-end : goal.slice_bounds-id_right-end
slice_bounds-id_right-end c = c.length_of-n.ensures ∙ ap length (sym (front c.args.places.now _ c.length_of-n.ensures))

pub returns-else-n-eq0 : goal.returns-else-n-eq0
returns-else-n-eq0 c =
    let p = c.args.places.now in
    let e = c.id_right.ensures in
    e ∙ ap (id_right 32) (front p _ c.length_of-n.ensures) ∙ allowed-some _ (omega arith)
