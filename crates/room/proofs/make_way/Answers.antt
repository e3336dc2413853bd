use Prim.Native.Nat.{◌+◌}
use mathlib.Core.Path.{◌∙◌, ap}
use native.Mathlib.Omega.{arith}
use lib.ListN.{length}
use Rattle.room.proofs.Laws.{part_zeroed, resize-all, zeroed-length}
use Rattle.room.proofs.make_way.Goals as goal

pub returns : goal.returns
returns g c =
    let a = c.args in
    let h = c.requires.place in
    let n = c.copy_within.ensures.len in
    let f = part_zeroed a.zero a.at (a.at + a.new) c.copy_within.new.self c.fill.new.self (omega arith) (omega arith) (c.fill.ensures.after c.requires.same) in
    let m = ap length f ∙ zeroed-length a.zero a.at (a.at + a.new) c.copy_within.new.self (omega arith) (omega arith) in
    resize-all _ a.s.now a.room a.at a.old a.new a.used h.1 h.3 h.0 h.2 c.copy_within.ensures.after f
    (part_zeroed a.zero _ a.room _ c.fill-2.new.self (omega arith) (omega arith) (c.fill-2.ensures.after c.requires.same))
