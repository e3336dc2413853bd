use mathlib.Core.Path.{◌≡◌}
use native.Mathlib.Omega.{arith}
use lib.ListN.{length}
use Rattle.process_list.proofs.Laws.{same_nodes}
use Rattle.process_list.proofs.nodes_of.Goals as goal

pub returns : goal.returns
returns c =
    let n : length c.args.list.now.nodes ≡ 32 = search arith in
    same_nodes c.args.list.now _ n c.min.ensures
