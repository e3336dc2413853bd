use mathlib.Core.Path.{◌≡◌, refl, ap, ◌∙◌}
use Rattle.std.specs.Prelude.{Ok, Err}
use Rattle.std.specs.Result.{result_unwrap_or}
use Rattle.tags.specs.Code.{part_in}
use Rattle.writing.specs.Writing.{Written, written_length}
use Rattle.reads_back.proofs.Calls.{wrote-part-read}
use Rattle.reads_back.proofs.write_and_read.Goals as goal

-- how many bytes were written
counted : (w : Written) → result_unwrap_or w 0 ≡ written_length w
counted (Ok n) = refl
counted (Err f) = refl

pub returns : goal.returns
returns c =
    let w = c.write-wrote in
    let r = c.read-answer in
    wrote-part-read _ (c.well_formed.0.1.1.1.0.1.0.1) _ w.result r.result c.args.out.now _ _ _ w.ensures.value w.ensures.out_after w.auto.out _
    (c.part.ensures ∙ ap (part_in _ 0) (c.unwrap_or-end.ensures ∙ counted w.result)) r.ensures
