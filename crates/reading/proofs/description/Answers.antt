use Prim.Native.Nat.{◌+◌, ◌-◌}
use mathlib.Core.Path.{refl, ◌≡◌}
use Rattle.reading.proofs.Laws.{part-is}
use native.Mathlib.Omega.{arith}
use Rattle.reading.proofs.description.Goals as goal

pub returns : goal.returns
returns c =
    let description-part = c.description_part-part in
    part-is _ _ _ _ description-part.ensures refl (omega arith)
    (let e : (description-part.result.start + description-part.result.length) - description-part.result.start ≡ description-part.result.length = omega arith in rw e)
