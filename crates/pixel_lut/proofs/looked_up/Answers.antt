use Rattle.std.proofs.Common.{◌≡◌, ℕ, ◌-◌, ◌^◌, ◌≤◌, arith, le→leb, eq-eqb, ne_eqb}
use lib.Ieee.{Float, in_float}
use Rattle.pixel_lut.specs.Lut1d.{looked_up, floor_to, stepped, index, remainder}
use Rattle.pixel_lut.specs.Floor.{position_in, floor-le}
use Rattle.pixel_lut.proofs.looked_up.Goals as goal
use Rattle.pixel_lut.proofs.looked_up.Goals.{then-i-n-via-then-i-n, then-i-n-via-else-i-n+then-f}

at_most : (n : ℕ) (p : Float) (i : ℕ) → i ≡ floor_to (n - 1) p → i ≤ n - 1
at_most n p i e = rw e (floor-le (n - 1) p)

pub floor_to-i-requires : goal.floor_to-i-requires
floor_to-i-requires c =
    let p = position_in c.args.n c.args.x c.requires.n_bound in
    record { top_bound = omega arith; t = rw c.position-p.ensures p.0; t_2 = rw c.position-p.ensures p.1 }

pub int_to_float-f : goal.int_to_float-f
unfolding in_float
int_to_float-f c = le→leb c.floor_to-i.result (2 ^ 53) (omega (arith, at_most c.args.n c.position-p.result c.floor_to-i.result c.floor_to-i.ensures))

pub entry-e-requires : goal.entry-e-requires
entry-e-requires c = record { columns_bound = c.requires.columns_bound; column_lt_columns = c.requires.column_lt_columns; i_lt_n = omega (arith, at_most c.args.n c.position-p.result c.floor_to-i.result c.floor_to-i.ensures) }

pub returns-then-i-n : goal.returns-then-i-n
unfolding looked_up stepped index remainder
returns-then-i-n c = elim c.then-i-n.branch [
  | then-i-n-via-then-i-n w ↦ rw (← c.position-p.ensures, ← c.floor_to-i.ensures) (simp (eq-eqb _ _ w.if-i-n.true, c.entry-e.ensures))
  | then-i-n-via-else-i-n+then-f w ↦ rw (← c.position-p.ensures, ← c.floor_to-i.ensures) (simp (ne_eqb _ _ w.if-i-n.false, w.if-f.true, c.entry-e.ensures))
]

pub overflow_add-i : goal.overflow_add-i
overflow_add-i c = omega (arith, at_most c.args.n c.position-p.result c.floor_to-i.result c.floor_to-i.ensures)

pub entry-next-requires : goal.entry-next-requires
entry-next-requires c =
    record { columns_bound = c.requires.columns_bound; column_lt_columns = c.requires.column_lt_columns; i_lt_n = omega (arith, at_most c.args.n c.position-p.result c.floor_to-i.result c.floor_to-i.ensures, c.if-i-n.false) }

pub returns : goal.returns
unfolding looked_up stepped index remainder
returns c =
    rw (← c.position-p.ensures, ← c.floor_to-i.ensures) (simp (ne_eqb _ _ c.if-i-n.false, c.if-f.false) (cc))
