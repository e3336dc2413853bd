use Rattle.std.specs.Prelude.{◌≡◌, true, false, List, ℕ, suc, ◌+◌, ◌≤◌, ◌<◌, length, drop, get_or, Float}
use Rattle.std.proofs.Common.{sym, ◌∙◌, arith, drop-cons, drop_of_length-le}
use Rattle.std.specs.Float.{nan}
use Rattle.std.specs.Float.Ieee.Scale.{finite}
use native.Mathlib.Numerals.{add-one}
use Rattle.pixel_run.specs.Finite.{first_not_finite}
use Rattle.pixel_run.specs.FiniteLaws.{all_first}
use Rattle.pixel_run.proofs.FiniteTests.{same-finite}
use Rattle.pixel_run.proofs.first_not_finite.Goals as goal

found : (l : List Float) (i : ℕ) → i < length l → finite (get_or l i nan) ≡ false → first_not_finite (drop i l) ≡ 0
unfolding first_not_finite
found l i h e = rw (drop-cons l i nan h) (simp e)

passed : (l : List Float) (i : ℕ) → i < length l → finite (get_or l i nan) ≡ true → first_not_finite (drop i l) ≡ suc (first_not_finite (drop (i + 1) l))
unfolding first_not_finite
passed l i h e = rw (add-one, drop-cons l i nan h) (simp e)

none : (l : List Float) (i : ℕ) → length l ≤ i → first_not_finite (drop i l) ≡ 0
unfolding first_not_finite
none l i h = rw (drop_of_length-le l h)

pub returns-then-all_finite : goal.returns-then-all_finite
returns-then-all_finite c = sym (all_first _ (sym c.all_finite.ensures ∙ c.if-all_finite.true))

pub returns-then-not-is_finite : goal.returns-then-not-is_finite
returns-then-not-is_finite c =
    let z = found c.args.pixels.now c.loop-i.i (omega arith) (sym (same-finite _) ∙ sym c.is_finite.ensures.value ∙ c.if-not-is_finite.true) in
    omega (arith, z, c.loop-i.invariant)

pub loop-i-preserved : goal.loop-i-preserved
loop-i-preserved c =
    let z = passed c.args.pixels.now c.loop-i.i (omega arith) (sym (same-finite _) ∙ sym c.is_finite.ensures.value ∙ c.if-not-is_finite.false) in
    omega (arith, z, c.loop-i.invariant)

pub returns : goal.returns
returns c =
    let z = none c.args.pixels.now c.loop-i.i (omega arith) in
    omega (arith, z, c.loop-i.invariant)
