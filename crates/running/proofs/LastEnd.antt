-- What comes out of a list whose last node is a Range with one end. Assumes nothing.
use mathlib.Core.Path.{◌≡◌, refl, sym, ap, subst, ◌∙◌}
use mathlib.Core.List.{List, [], ◌∷◌}
use Prim.Native.Nat.{ℕ, ◌+◌}
use native.Mathlib.Omega.{arith}
use lib.Ieee.{Float}
use Rattle.process_list.specs.declared.Kind.TheVariants.{OneEnd}
use Rattle.process_list.specs.declared.Node.{Node}
use Rattle.process_list.specs.declared.RangeEnd.{RangeEnd}
use Rattle.process_list.specs.List.{scale_of}
use Rattle.room.specs.Room.{Room}
use Rattle.pixel.specs.OneEndLaws.{known-number}
use Rattle.pixel_room.specs.Room.{number_at}
use Rattle.pixel_room.proofs.Known.{number-known}
use Rattle.pixel_run.specs.declared.Prepared.{Prepared}
use Rattle.pixel_run.specs.declared.Prepared.TheVariants as prepared
use Rattle.pixel_run.specs.Each.{EachInside}
use Rattle.pixel_run.specs.Prepare.{one_end_from}
use Rattle.pixel_run.specs.Step.{ClampHolds}
use Rattle.pixel_run.proofs.ClampRuns.{node-ran}
use Rattle.running.specs.Running.{prepared_as, prepared_of, rows_of, run_node, run_nodes, LastEndHolds}
use Rattle.running.specs.RunningLaws.{run-parts}

module _ (m : Room) where
  module _ (n : Node) (end : RangeEnd) (k : n.kind ≡ OneEnd end) where
    prepared-end : prepared_of m n ≡ prepared.OneEnd end (number_at m n.at)
    unfolding prepared_of prepared_as one_end_from
    prepared-end =
        let z : n.at + 0 ≡ n.at = omega arith in
        rw k (ap (λ (i : ℕ). prepared.OneEnd end (number_at m i)) z)

    -- of a limit out of a room, which is a number
    holds : (ys : List Float) → ClampHolds (prepared_of m n) ys → EachInside end (number_at m n.at) ys
    unfolding ClampHolds
    holds ys h = subst (λ (p : Prepared). ClampHolds p ys) prepared-end h (known-number (number_at m n.at) (number-known m n.at))

    inside : (xs : List Float) → EachInside end (number_at m n.at) (run_node m n xs)
    unfolding run_node
    inside xs = holds (run_node m n xs) (node-ran (rows_of m n) (scale_of n.input) (scale_of n.output) m xs (run_node m n xs) (prepared_of m n) refl).1

  pub last_end : (ns : List Node) (xs ys : List Float) → ys ≡ run_nodes m ns xs → LastEndHolds m ns ys
  unfolding LastEndHolds run_nodes
  last_end ns xs ys f before n end e k =
      let g : ys ≡ run_node m n (run_nodes m before xs) = f ∙ ap (λ (l : List Node). run_nodes m l xs) e ∙ run-parts m before (n ∷ []) xs in
      subst (λ (zs : List Float). EachInside end (number_at m n.at) zs) (sym g) (inside n end k (run_nodes m before xs))
