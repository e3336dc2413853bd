use Rattle.pixel_lut.specs.Table.{lut1d_pixel}
use Rattle.pixel_lut.proofs.lut1d_pixel.Goals as goal

pub looked_up_all-requires : goal.looked_up_all-requires
looked_up_all-requires c = rw (← c.length-count.ensures) (rw (← c.table_in.ensures) c.if-table_in.true)

pub returns-then-table_in : goal.returns-then-table_in
unfolding lut1d_pixel
returns-then-table_in c =
    rw (← c.length-count.ensures, ← c.table_in.ensures) (simp (c.if-table_in.true, c.looked_up_all.ensures, c.to_fractions-fractions.ensures))

pub returns : goal.returns
unfolding lut1d_pixel
returns c =
    rw (← c.length-count.ensures, ← c.table_in.ensures) (simp c.if-table_in.false)
