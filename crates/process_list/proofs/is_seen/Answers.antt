use mathlib.Core.Path.{sym, ap, ◌∙◌}
use borrow.Author.Rules.{rules}
use lib.ListN.{get_or, take}
use Rattle.ids.specs.Ids.{is_given}
use Rattle.xml.specs.Bytes.{same}
use Rattle.std.proofs.lemmas.Iterator.{YieldsList-from_slice}
use Rattle.std.proofs.lemmas.Iterator.Search.{any_from_yields_List}
use Rattle.process_list.specs.declared.Node.{Node}
use Rattle.process_list.specs.List.{blank_node}
use Rattle.process_list.proofs.Maps.{getD-within}
use Rattle.process_list.proofs.Seen.{given-seen, not-given}
use Rattle.process_list.proofs.is_seen.Goals as goal

pub returns-then-is_given : goal.returns-then-is_given
returns-then-is_given c =
    let ns = c.args.nodes.now in
    let e = getD-within ns c.args.k _ blank_node c.requires in
    given-seen ns c.args.k _ (ap (λ (n : Node). is_given n.id) (sym e) ∙ sym c.is_given.ensures ∙ c.if-is_given.true)
    (any_from_yields_List (λ (n : Node). same (get_or ns c.args.k blank_node).id n.id) _ _ _ c.any.ensures.ran (YieldsList-from_slice (take c.args.k ns) cc) (λ x b q k. (search rules, search rules)))

pub returns-else-is_given : goal.returns-else-is_given
returns-else-is_given c =
    let ns = c.args.nodes.now in
    let e = getD-within ns c.args.k _ blank_node c.requires in
    c.if-is_given.false ∙ not-given ns c.args.k (ap (λ (n : Node). is_given n.id) (sym e) ∙ sym c.is_given.ensures ∙ c.if-is_given.false)
