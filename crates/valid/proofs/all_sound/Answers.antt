use mathlib.Core.Path.{◌∙◌, sym}
use mathlib.Core.List.{map}
use Rattle.std.proofs.lemmas.Iterator.{YieldsList-from_slice}
use Rattle.std.proofs.lemmas.Iterator.Search.{all_from_yields_List}
use borrow.Author.Rules.{rules}
use Rattle.std.proofs.lemmas.List.Folds.{list_all-map}
use Rattle.process_list.specs.declared.Node.{Node}
use Rattle.room.specs.Room.{lent}
use Rattle.valid.specs.Valid.{element_of, sound}
use Rattle.valid.proofs.Laws.{every-all}
use Rattle.valid.proofs.all_sound.Goals as goal

pub returns : goal.returns
returns c =
    let ns = c.args.nodes.now in
    let m = lent c.args.coefficients.now c.args.powers.now in
    all_from_yields_List (λ (n : Node). sound (element_of m n)) c.all.new.self _ _ c.all.ensures.ran (YieldsList-from_slice {s = c.iter.result} ns cc) (λ x b q k. search rules)
    ∙ sym (list_all-map sound (element_of m) ns)
    ∙ every-all sound (map (element_of m) ns)
