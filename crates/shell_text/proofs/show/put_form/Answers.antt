use Rattle.text_out.proofs.Laws.{puts-by, puts_then}
use Rattle.shell_text.specs.Show.{form_text}
use Rattle.shell_text.proofs.show.put_form.Goals as goal

pub returns-in-Matrix : goal.returns-in-Matrix
unfolding form_text
returns-in-Matrix c = puts-by form_text c.in-Matrix.is c.put_either.ensures

pub returns-in-Lut1d : goal.returns-in-Lut1d
unfolding form_text
returns-in-Lut1d c = puts-by form_text c.in-Lut1d.is c.put_table.ensures

pub returns-in-Range : goal.returns-in-Range
unfolding form_text
returns-in-Range c =
    puts-by form_text c.in-Range.is (rw c.range_clamps.ensures at c.put_either-in-Range.ensures)

pub returns-in-Cdl : goal.returns-in-Cdl
unfolding form_text
returns-in-Cdl c =
    puts-by form_text c.in-Cdl.is (rw c.cdl_clamps.ensures at c.put_either-in-Cdl.ensures)

pub returns-in-Lut3d : goal.returns-in-Lut3d
unfolding form_text
returns-in-Lut3d c =
    puts-by form_text c.in-Lut3d.is (puts_then c.put_method-held.ensures c.put_cube.ensures)

pub returns-in-OneEnd : goal.returns-in-OneEnd
unfolding form_text
returns-in-OneEnd c = puts-by form_text c.in-OneEnd.is c.put_one_end.ensures
