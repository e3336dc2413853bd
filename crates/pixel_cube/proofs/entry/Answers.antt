use Prim.Native.Nat.{ℕ, ◌+◌, ◌*◌, ◌≤◌}
use native.Mathlib.Nat.{mul-le-mul_right}
use native.Mathlib.Omega.{arith}
use Rattle.pixel_cube.specs.Table.{entry_at, place_of}
use Rattle.pixel_cube.specs.declared.Corner.{Corner}
use Rattle.pixel_cube.specs.Corners.{Inside}
use Rattle.pixel_cube.proofs.entry.Goals as goal

-- a line of entries, and a plane of lines
line : (i j n : ℕ) → i ≤ 33 → j ≤ 33 → n ≤ 33 → i * n + j ≤ 1122
line i j n h k l = omega (arith, mul-le-mul_right n h)

plane : (k n : ℕ) → k ≤ 1122 → n ≤ 33 → k * n ≤ 37026
plane k n h l = omega (arith, mul-le-mul_right n h)

module _ (n : ℕ) (c : Corner) (h : n ≤ 33) (i : Inside n c) where
  lines : c.red * n + c.green ≤ 1122
  lines = line c.red c.green n (omega (arith, h, i.red)) (omega (arith, h, i.green)) h

  planes : (c.red * n + c.green) * n ≤ 37026
  planes = plane (c.red * n + c.green) n lines h

pub overflow_mul-place : goal.overflow_mul-place
overflow_mul-place c = omega (arith, lines c.args.n c.args.c c.requires.n_bound c.requires.inside)

pub overflow_add-place : goal.overflow_add-place
overflow_add-place c = omega (arith, lines c.args.n c.args.c c.requires.n_bound c.requires.inside)

pub overflow_mul-place-2 : goal.overflow_mul-place-2
overflow_mul-place-2 c = omega (arith, planes c.args.n c.args.c c.requires.n_bound c.requires.inside)

pub overflow_add-place-2 : goal.overflow_add-place-2
overflow_add-place-2 c = omega (arith, planes c.args.n c.args.c c.requires.n_bound c.requires.inside, c.requires.n_bound, c.requires.inside.blue)

pub overflow_mul-place-3 : goal.overflow_mul-place-3
overflow_mul-place-3 c = omega (arith, planes c.args.n c.args.c c.requires.n_bound c.requires.inside, c.requires.n_bound, c.requires.inside.blue)

pub overflow_add-place-3 : goal.overflow_add-place-3
overflow_add-place-3 c = omega (arith, planes c.args.n c.args.c c.requires.n_bound c.requires.inside, c.requires.n_bound, c.requires.inside.blue)

pub returns : goal.returns
unfolding entry_at place_of
returns c = c.number_from.ensures
