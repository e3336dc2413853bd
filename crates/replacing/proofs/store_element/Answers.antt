use Rattle.replacing.proofs.Rooms.{stores}
use Rattle.replacing.proofs.store_element.Goals as goal

pub returns : goal.returns
returns c =
    stores _ _ _ _ _ _ _ c.get-old.result _ _ _ c.get-old.ensures c.numbers_of-old_count.ensures c.numbers_of-new_count.ensures c.used-used.ensures
    c.resize.ensures _ c.element.ensures
