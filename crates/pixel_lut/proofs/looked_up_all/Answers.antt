use Rattle.room.specs.Room.{lent, room_length}
use Rattle.pixel_lut.specs.Table.{looked_up_all}
use Rattle.pixel_lut.specs.TableLaws.{held}
use Rattle.pixel_lut.proofs.looked_up_all.Goals as goal

pub looked_up-requires : goal.looked_up-requires
looked_up-requires c = let h = held (room_length (lent c.args.coefficients.now c.args.powers.now)) c.args.at c.args.n c.args.columns c.requires in record { le_n = h.some; n_bound = h.most; columns_bound = h.inside; column_lt_columns = rw c.column_of-red.ensures h.red }

pub looked_up-requires-2 : goal.looked_up-requires-2
looked_up-requires-2 c = let h = held (room_length (lent c.args.coefficients.now c.args.powers.now)) c.args.at c.args.n c.args.columns c.requires in record { le_n = h.some; n_bound = h.most; columns_bound = h.inside; column_lt_columns = rw c.column_of-green.ensures h.green }

pub looked_up-requires-3 : goal.looked_up-requires-3
looked_up-requires-3 c = let h = held (room_length (lent c.args.coefficients.now c.args.powers.now)) c.args.at c.args.n c.args.columns c.requires in record { le_n = h.some; n_bound = h.most; columns_bound = h.inside; column_lt_columns = rw c.column_of-blue.ensures h.blue }

pub returns : goal.returns
unfolding looked_up_all
returns c =
    rw (← c.column_of-red.ensures, ← c.column_of-green.ensures, ← c.column_of-blue.ensures)
    (simp (c.looked_up.ensures, c.looked_up-2.ensures, c.looked_up-3.ensures))
