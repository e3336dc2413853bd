use mathlib.Core.Path.{◌≡◌, ap}
use lib.Ieee.{Float}
use Rattle.pixel.specs.declared.CodeValue.{CodeValue}
use Rattle.pixel.specs.RangeLaws.{line-bound}
use Rattle.pixel.specs.Range.{range_line}
use Rattle.pixel.proofs.range_line.Goals as goal

abbrev code : Float → CodeValue
code x = record { 0 = x }

pub returns-then-clamp : goal.returns-then-clamp
unfolding range_line
returns-then-clamp c =
    let a = c.args in
    let r = code c.quick_hold.result in
    let e : r ≡ range_line a.s a.shift a.min_out a.max_out a.clamp a.x = rw c.if-clamp.true (ap code c.quick_hold.ensures) in
    record { value = e; between = line-bound a.s a.shift a.min_out a.max_out a.clamp a.x r e }

pub returns : goal.returns
unfolding range_line
returns c =
    let a = c.args in
    record { value = simp c.if-clamp.false; between = line-bound a.s a.shift a.min_out a.max_out a.clamp a.x _ (simp c.if-clamp.false) }
