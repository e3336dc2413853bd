use mathlib.Core.Path.{◌≡◌}
use native.Mathlib.Omega.{arith}
use lib.ListN.{length, length-take}
use Rattle.process_list.specs.List.{nodes_of}
use Rattle.process_list.proofs.held.Goals as goal

pub returns : goal.returns
unfolding nodes_of
returns c =
    let n : length c.args.list.nodes ≡ 32 = search arith in
    record { nodes = simp length-take (omega arith); array = n; most = omega arith; within = omega arith; whole = λ h. omega arith }
