use Rattle.range_node.proofs.Values.{two-laid}
use Rattle.range_node.proofs.store_pair.Goals as goal

pub returns : goal.returns
returns c =
    rw (← c.in_index.ensures, ← c.number_at-a.ensures, ← c.out_index.ensures, ← c.number_at-b.ensures)
    (two-laid _ _ _ _ _ _ c.store.ensures c.store-2.ensures)
