use Prim.Native.Nat.{◌<◌, ◌≤◌, ◌*◌}
use native.Mathlib.Omega.{arith}
use native.Mathlib.Nat.{div-lt_iff_lt-mul, le-div_iff_mul-le, mul-zero}
use Rattle.process_list.specs.List.{capped}
use Rattle.process_list.proofs.table_numbers.Goals as goal

pub returns-then-columns-eq0 : goal.returns-then-columns-eq0
unfolding capped
returns-then-columns-eq0 c = rw c.if-columns-eq0.true (simp mul-zero)

pub returns-then-columns-entries : goal.returns-then-columns-entries
unfolding capped
returns-then-columns-entries c =
    let a = c.args in
    let p : 0 < a.columns = omega arith in
    let h : 262144 < a.entries * a.columns = (div-lt_iff_lt-mul p).0 c.if-columns-entries.true in
    omega arith

pub overflow_mul-result : goal.overflow_mul-result
overflow_mul-result c =
    let a = c.args in
    let p : 0 < a.columns = omega arith in
    let h : a.entries * a.columns ≤ 262144 = (le-div_iff_mul-le p).0 c.if-columns-entries.false in
    omega arith

pub returns : goal.returns
unfolding capped
returns c =
    let a = c.args in
    let p : 0 < a.columns = omega arith in
    let h : a.entries * a.columns ≤ 262144 = (le-div_iff_mul-le p).0 c.if-columns-entries.false in
    omega arith
