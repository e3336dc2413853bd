use Rattle.text_out.proofs.Laws.{puts-as, puts_then}
use Rattle.writing.proofs.NodeLaws.{wide-asks, wide-text, narrow-asks, narrow-text, table-asks, table-text, range-asks, range-text, cdl-asks, cdl-text, cube-asks, cube-text, one-end-asks, one-end-text}
use Rattle.writing.proofs.elements.put_content.Goals as goal

-- By the kind of the node. Assumes nothing.
pub put_table-requires : goal.put_table-requires
put_table-requires c =
    let h = c.requires in
    let e = c.in-Matrix.is in
    wide-asks _ _ e _ _ c.if-wide.true h

pub returns-then-wide : goal.returns-then-wide
returns-then-wide c = puts-as (wide-text _ _ c.in-Matrix.is _ _ c.if-wide.true) c.put_table.ensures

pub put_table-requires-in-Matrix : goal.put_table-requires-in-Matrix
put_table-requires-in-Matrix c =
    let h = c.requires in
    let e = c.in-Matrix.is in
    narrow-asks _ _ e _ _ c.if-wide.false h

pub put_table-requires-in-Lut1d : goal.put_table-requires-in-Lut1d
put_table-requires-in-Lut1d c =
    let h = c.requires in
    let e = c.in-Lut1d.is in
    table-asks _ _ _ e _ _ h

pub put_range-requires : goal.put_range-requires
put_range-requires c =
    let h = c.requires in
    let e = c.in-Range.is in
    range-asks _ _ e _ _ h

pub put_sop-held-requires : goal.put_sop-held-requires
put_sop-held-requires c =
    let h = c.requires in
    let e = c.in-Cdl.is in
    cdl-asks _ _ e _ _ h

pub put_sat-requires : goal.put_sat-requires
put_sat-requires c =
    let h = c.requires in
    let e = c.in-Cdl.is in
    cdl-asks _ _ e _ _ h

pub put_cube-requires : goal.put_cube-requires
put_cube-requires c =
    let h = c.requires in
    let e = c.in-Lut3d.is in
    cube-asks _ _ _ e _ _ h

pub put_one_end-requires : goal.put_one_end-requires
put_one_end-requires c =
    let h = c.requires in
    let e = c.in-OneEnd.is in
    one-end-asks _ _ e _ _ h

pub returns-else-wide : goal.returns-else-wide
returns-else-wide c = puts-as (narrow-text _ _ c.in-Matrix.is _ _ c.if-wide.false) c.put_table-in-Matrix.ensures

pub returns-in-Lut1d : goal.returns-in-Lut1d
returns-in-Lut1d c = puts-as (table-text _ _ _ c.in-Lut1d.is _ _) c.put_table-in-Lut1d.ensures

pub returns-in-Range : goal.returns-in-Range
returns-in-Range c = puts-as (range-text _ _ c.in-Range.is _ _) c.put_range.ensures

pub returns-in-Cdl : goal.returns-in-Cdl
returns-in-Cdl c =
    puts-as (cdl-text _ _ c.in-Cdl.is _ _) (puts_then c.put_sop-held.ensures c.put_sat.ensures)

pub returns-in-Lut3d : goal.returns-in-Lut3d
returns-in-Lut3d c = puts-as (cube-text _ _ _ c.in-Lut3d.is _ _) c.put_cube.ensures

pub returns-in-OneEnd : goal.returns-in-OneEnd
returns-in-OneEnd c = puts-as (one-end-text _ _ c.in-OneEnd.is _ _) c.put_one_end.ensures
