use Rattle.scanning.specs.Steps.{scan}
use Rattle.tags.proofs.Words.{depth_of-def}
use Rattle.tags.proofs.depth_of.Goals as goal

pub returns-then-same : goal.returns-then-same
returns-then-same c = search (scan, depth_of-def)

pub returns-then-same-2 : goal.returns-then-same-2
returns-then-same-2 c = search (scan, depth_of-def)

pub returns-then-same-3 : goal.returns-then-same-3
returns-then-same-3 c = search (scan, depth_of-def)

pub returns-then-same-4 : goal.returns-then-same-4
returns-then-same-4 c = search (scan, depth_of-def)

pub returns-then-same-5 : goal.returns-then-same-5
returns-then-same-5 c = search (scan, depth_of-def)

pub returns-then-same-6 : goal.returns-then-same-6
returns-then-same-6 c =
    rw (depth_of-def, ← c.same.ensures, c.if-same.false, ← c.same-2.ensures, c.if-same-2.false, ← c.same-3.ensures, c.if-same-3.false, ← c.same-4.ensures, c.if-same-4.false, ← c.same-5.ensures, c.if-same-5.false, ← c.same-6.ensures, c.if-same-6.true)

pub returns : goal.returns
returns c =
    rw (depth_of-def, ← c.same.ensures, c.if-same.false, ← c.same-2.ensures, c.if-same-2.false, ← c.same-3.ensures, c.if-same-3.false, ← c.same-4.ensures, c.if-same-4.false, ← c.same-5.ensures, c.if-same-5.false, ← c.same-6.ensures, c.if-same-6.false)
