-- Laws of running: nodes in two parts, the length, and what each way out of a call comes to. Assumes nothing.
use Rattle.std.specs.Prelude.{◌≡◌, true, false, length, Float, Ok, Err}
use Rattle.std.proofs.Math.Path.{refl}
use Rattle.std.proofs.Common.{◌∙◌}
use mathlib.Core.List.{List, [], ◌∷◌, ◌++◌}
use Rattle.process_list.specs.declared.Node.{Node}
use Rattle.process_list.specs.declared.ProcessList.{ProcessList}
use Rattle.process_list.specs.List.{nodes_of}
use Rattle.room.specs.Room.{Room}
use Rattle.valid.specs.Valid.{is_valid}
use Rattle.pixel_run.specs.Finite.{first_not_finite}
use Rattle.pixel_run.specs.EachLaws.{each-length}
use Rattle.running.specs.declared.RunFault.{RunFault}
use Rattle.running.specs.declared.RunFault.TheVariants.{NoReading, NotThrees, NotFinite}
use Rattle.running.specs.Running.{run_node, run_nodes, not_threes, not_finite, ran_of, pixels_of}

module _ (m : Room) where
  -- the nodes of one part, then those of the other
  pub run-parts : (before after : List Node) (xs : List Float) → run_nodes m (before ++ after) xs ≡ run_nodes m after (run_nodes m before xs)
  unfolding run_nodes
  run-parts [] after xs = refl
  run-parts (n ∷ before) after xs = run-parts before after (run_node m n xs)

  pub run-node-length : (n : Node) (xs : List Float) → length (run_node m n xs) ≡ length xs
  unfolding run_node
  run-node-length n xs = each-length _ xs

  pub run_length : (ns : List Node) (xs : List Float) → length (run_nodes m ns xs) ≡ length xs
  unfolding run_nodes
  run_length [] xs = refl
  run_length (n ∷ ns) xs = run_length ns (run_node m n xs) ∙ run-node-length n xs

-- ---- the answer and the slice in each case
module _ (list : ProcessList) (m : Room) where
  pub ran-invalid : (xs : List Float) → is_valid list m ≡ false → ran_of list m xs ≡ Err NoReading
  unfolding ran_of
  ran-invalid xs h = simp h

  module _ (v : is_valid list m ≡ true) where
    pub ran-not-threes : (xs : List Float) → not_threes xs ≡ true → ran_of list m xs ≡ Err NotThrees
    unfolding ran_of
    ran-not-threes xs h = simp (v, h)

    pub ran-not-finite : (xs : List Float) → not_threes xs ≡ false → not_finite xs ≡ true → ran_of list m xs ≡ Err (NotFinite (first_not_finite xs))
    unfolding ran_of
    ran-not-finite xs h k = simp (v, h, k)

    pub ran-accepted : (xs : List Float) → not_threes xs ≡ false → not_finite xs ≡ false → ran_of list m xs ≡ Ok tt
    unfolding ran_of
    ran-accepted xs h k = simp (v, h, k)

    -- 'an empty slice is accepted'
    pub empty-accepted : ran_of list m [] ≡ Ok tt
    unfolding not_threes not_finite first_not_finite
    empty-accepted = ran-accepted [] refl refl

  pub pixels-accepted : (xs : List Float) → ran_of list m xs ≡ Ok tt → pixels_of list m xs ≡ run_nodes m (nodes_of list) xs
  unfolding pixels_of
  pixels-accepted xs h = simp h

  -- refused, nothing changes
  pub pixels-refused : (xs : List Float) (f : RunFault) → ran_of list m xs ≡ Err f → pixels_of list m xs ≡ xs
  unfolding pixels_of
  pixels-refused xs NoReading h = simp h
  pixels-refused xs NotThrees h = simp h
  pixels-refused xs (NotFinite index) h = simp h
