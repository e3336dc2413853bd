-- A number that is 1 is above 0. Assumes nothing.
use mathlib.Core.Path.{◌≡◌}
use mathlib.Core.Bool.{true, false}
use Prim.Native.Nat.{zero, suc, ◌*◌}
use native.Mathlib.Omega.{arith}
use native.Mathlib.Nat.{zero-mul, zero-lt-suc}
use lib.Dec.{eqb, T, lt→ltb}
use lib.IntN.{pos}
use lib.Ieee.{Float, nan, inf, fin, up, down, eq, of_int}
use lib.Ieee.Positive.{positive}
use lib.Ieee.Fits.{down_pos}
use borrow.Author.Tests.{eqb-true}
use Rattle.decimal.specs.declared.Decimal.{Decimal}
use Rattle.decimal_value.specs.Value.{whole_f64, is_one}
use Rattle.decimal_value.specs.Value as Value
use Rattle.decimal_value.proofs.Order.{lt_above}
use Rattle.valid.proofs.Elements.{both_true}
use Rattle.grammar.specs.Laws.{nope}

one-positive : (x : Float) → eq x (whole_f64 (pos 1)) ≡ true → T (positive x)
unfolding eq of_int
one-positive nan h = nope cc
one-positive (inf s) h = nope cc
one-positive (fin true m e) h =
    let p = both_true (eqb (m * up e * 1) (1 * down e)) (eqb (m * up e * 1) 0) h in
    let a = eqb-true (m * up e * 1) (1 * down e) p.0 in
    let b = eqb-true (m * up e * 1) 0 p.1 in
    absurd (omega (arith, down_pos e))
one-positive (fin false zero e) h =
    let p = both_true (eqb (0 * up e * 1) (1 * down e)) true h in
    let a = eqb-true (0 * up e * 1) (1 * down e) p.0 in
    absurd (omega (arith, down_pos e, zero-mul (up e)))
one-positive (fin false (suc m) e) h = lt→ltb 0 (suc m) (zero-lt-suc m)

pub one-above : (d : Decimal) → is_one d ≡ true → Value.positive d ≡ true
unfolding is_one Value.positive
one-above d h = lt_above (Value.value_of d) (one-positive (Value.value_of d) h)
