-- The definitions answer each question of W-202's tables. Assumes nothing.
use mathlib.Core.Path.{◌≡◌, refl}
use mathlib.Core.Bool.{true, false}
use mathlib.Core.List.{map}
use lib.Ieee.{is_nan}
use Rattle.decimal_value.specs.Value.{equal}
use Rattle.valid.specs.Valid.{one_end_holds}
use Rattle.pixel.specs.OneEnd.{beyond, limited, limited_pixel}
use Rattle.pixel_run.specs.Prepare.{one_end_from}
use Rattle.clf.specs.Numbers.{value_element}
use Rattle.clf.specs.Nodes.{range_index, only_pair, pair_equal, one_end_fault, range_missing, one_end_allowed, one_end_allowed_by, range}
use Rattle.examples.specs.Ends as Ends
use Rattle.examples.proofs.Runs.{runs}
use Rattle.examples.proofs.Readings.{reads}

pub read : map Ends.file_outcome Ends.files ≡ Ends.file_answers
unfolding Ends.files Ends.pairs Ends.halves Ends.threes Ends.forbidden Ends.unequal Ends.end_tags Ends.fours
    Ends.file_answers Ends.pairs_answers Ends.halves_answers Ends.threes_answers Ends.forbidden_answers Ends.unequal_answers Ends.end_tags_answers Ends.fours_answers
    runs reads equal value_element range_index only_pair pair_equal one_end_fault range_missing one_end_allowed one_end_allowed_by range
read = refl

pub missing : map (range_missing true) Ends.subsets ≡ Ends.subsets_answers 0
unfolding Ends.subsets runs equal only_pair pair_equal one_end_fault range_missing
missing = refl

pub forbidden : map (range_missing false) Ends.subsets ≡ Ends.subsets_answers 7
unfolding Ends.subsets runs equal only_pair pair_equal one_end_fault range_missing
forbidden = refl

pub ran : map Ends.outcome Ends.questions ≡ Ends.answers
unfolding Ends.questions Ends.answers runs reads equal value_element range_index only_pair pair_equal one_end_fault range_missing one_end_allowed one_end_allowed_by range
    one_end_holds is_nan beyond limited limited_pixel one_end_from
ran = refl
