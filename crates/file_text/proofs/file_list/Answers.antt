use Rattle.file_text.proofs.Whole.{list-reads, list-room}
use borrow.Author.Rules.{rules}
use Rattle.file_text.proofs.file_list.Goals as goal

pub shape_of-coefficients : goal.shape_of-coefficients
shape_of-coefficients c =
    let clear = c.clear in
    let limit = c.limit in
    let the-length = c.length-room in
    let text-list = c.text_list-step in
    (list-room _ _ _ _ _ _ _ _ text-list.ensures limit.ensures the-length.ensures clear.ensures).coefficients.size

pub shape_of-powers : goal.shape_of-powers
shape_of-powers c =
    let clear = c.clear in
    let limit = c.limit in
    let the-length = c.length-room in
    let text-list = c.text_list-step in
    (list-room _ _ _ _ _ _ _ _ text-list.ensures limit.ensures the-length.ensures clear.ensures).powers.size

pub returns : goal.returns
returns c =
    let clear = c.clear in
    let limit = c.limit in
    let the-length = c.length-room in
    let text-list = c.text_list-step in
    list-reads _ _ _ _ _ _ _ _ text-list.ensures limit.ensures the-length.ensures clear.ensures
