use mathlib.Core.Bool.{true, false, not}
use mathlib.Core.Path.{◌≡◌, sym, ap, ◌∙◌}
use Prim.Native.Nat.{◌≤◌}
use native.Mathlib.Omega.{arith}
use borrow.Author.Tests.{le-leb, lt-leb}
use lib.Dec.{eqb}
use Rattle.std.specs.Result.{is_err}
use Rattle.std.proofs.lemmas.Bool.Decides.{nat_tests}
use Rattle.process_list.proofs.Lists.{accepted-fine}
use Rattle.process_list.specs.List.{most_numbers, total, nodes_of, judged, verdict_number}
use Rattle.valid.proofs.Laws.{verdict-ok, accepted-ok}
use Rattle.valid.specs.Valid.{list_right, every, id_held, gapless}
use Rattle.valid.proofs.list_right.Goals as goal
use Rattle.valid.proofs.list_right.Goals.{then-is_gapless, else-is_gapless}

-- past the first test, at most 32 nodes; past the second, no fault was found of them
pub returns-then-list-gt32 : goal.returns-then-list-gt32
unfolding list_right
returns-then-list-gt32 c = simp (lt-leb _ _ c.if-list-gt32.true)

pub returns-then-is_err : goal.returns-then-is_err
unfolding list_right
returns-then-is_err c =
    let v = judged c.args.room (nodes_of c.args.list) in
    let e : is_err v ≡ true = ap is_err (sym c.judge.ensures) ∙ sym c.is_err.ensures.value ∙ c.if-is_err.true in
    let f : eqb (verdict_number v) 0 ≡ false = verdict-ok v ∙ ap not e in
    simp (le-leb _ _ c.if-list-gt32.false, f)

pub is_gapless-requires : goal.is_gapless-requires
is_gapless-requires c =
    let ns = nodes_of c.args.list in
    let v = judged c.args.room ns in
    let e : is_err v ≡ false = ap is_err (sym c.judge.ensures) ∙ sym c.is_err.ensures.value ∙ c.if-is_err.false in
    let f = accepted-fine c.args.room ns (accepted-ok v e) in
    let few : total ns ≤ most_numbers = omega arith in
    rw c.nodes_of-nodes.ensures few

pub returns-then-ids_held : goal.returns-then-ids_held
unfolding list_right
returns-then-ids_held c =
    let ns = nodes_of c.args.list in
    let v = judged c.args.room ns in
    let e : is_err v ≡ false = ap is_err (sym c.judge.ensures) ∙ sym c.is_err.ensures.value ∙ c.if-is_err.false in
    let f : eqb (verdict_number v) 0 ≡ true = verdict-ok v ∙ ap not e in
    let g : gapless 0 ns ≡ c.is_gapless.result = ap (gapless 0) (sym c.nodes_of-nodes.ensures) ∙ sym c.is_gapless.ensures in
    elim c.if-is_gapless.branch [
      | then-is_gapless w ↦
          let h : every id_held ns ≡ true = ap (every id_held) (sym c.nodes_of-nodes.ensures) ∙ sym w.ids_held.ensures ∙ sym w.value-is ∙ c.if-ids_held.true in
          simp (le-leb _ _ c.if-list-gt32.false, f, g ∙ w.if-is_gapless.true, h) c.blank_behind.ensures
      | else-is_gapless w ↦ cc
    ]

pub returns-else-ids_held : goal.returns-else-ids_held
unfolding list_right
returns-else-ids_held c =
    let ns = nodes_of c.args.list in
    let v = judged c.args.room ns in
    let e : is_err v ≡ false = ap is_err (sym c.judge.ensures) ∙ sym c.is_err.ensures.value ∙ c.if-is_err.false in
    let f : eqb (verdict_number v) 0 ≡ true = verdict-ok v ∙ ap not e in
    let g : gapless 0 ns ≡ c.is_gapless.result = ap (gapless 0) (sym c.nodes_of-nodes.ensures) ∙ sym c.is_gapless.ensures in
    simp (le-leb _ _ c.if-list-gt32.false, f) (grind (arith, nat_tests))
