-- A Description's text by what its parts answered. Assumes nothing.
use mathlib.Core.Path.{◌≡◌, refl, sym, ap, ◌∙◌}
use mathlib.Core.Bool.{false}
use mathlib.Core.List.{List}
use Prim.Native.Nat.{ℕ, ◌+◌}
use native.Mathlib.Omega.{arith}
use lib.ListN.{drop}
use Rattle.grammar.specs.Parse.{Out, then_out}
use Rattle.xml.specs.Xml.{Tag, plain, start_tag, open_name}
use Rattle.std.specs.Prelude.{Ok, Err, Option, Some, None}
use Rattle.std.specs.Option.{unwrap_or}
use Rattle.xml.specs.declared.Stop.{Stop}
use Rattle.xml.specs.declared.Stop.TheVariants as Stops
use Rattle.xml.specs.Code.{Reads, part}
use Rattle.tags.specs.declared.TagEnd.{TagEnd}
use Rattle.tags.specs.declared.TagEnd.TheVariants as Ends
use Rattle.tags.specs.Ended.{EndsAs, tag_read, ends_open, ends-empty, ends-failed}
use Rattle.clf.specs.Description.{in_node, to_text, no_part, text_part, part_from}
use Rattle.describing.specs.declared.Part.{Part}
use Rattle.describing.specs.Code.{no_place, IsPlace, IsFound, behind_tag}

-- there is none
pub none_found_lem : (s : List ℕ) (w : ℕ × ℕ) (r : Part) → r ≡ no_place → w ≡ no_part → IsPlace s w r
none_found_lem s w r h e = record {
  start = ap (λ (v : Part). v.start) h ∙ sym (ap (λ (v : ℕ × ℕ). v.0) e);
  length = ap (λ (v : Part). v.length) h ∙ sym (ap (λ (v : ℕ × ℕ). v.1) e);
  inside = omega (arith, ap (λ (v : Part). v.start) h, ap (λ (v : Part). v.length) h);
}

-- what has been found, or the empty part where there is none
pub found_or_none : (s : List ℕ) (w : ℕ × ℕ) (o : Option Part) (r : Part) → IsFound s w o → r ≡ no_place → IsPlace s w (unwrap_or o r)
found_or_none s w (Some p) r v h = v
found_or_none s w None r v h = none_found_lem s w r h v

-- ---- a node

module _ (s : List ℕ) (at : ℕ) where
  abbrev behind_name : Out (List ℕ) → ℕ × ℕ
  behind_name o = text_part s (then_out o (λ w u. then_out ((start_tag plain).run u) (λ tag. (in_node tag).run)))

  part-is : part_from at s ≡ behind_name (open_name.run (drop at s))
  unfolding part_from to_text
  part-is = refl

  by_name_lem : (o : Out (List ℕ)) → o ≡ open_name.run (drop at s) → part_from at s ≡ behind_name o
  by_name_lem o q = part-is ∙ ap behind_name (sym q)

  pub no_name : (x : Stop) → Reads 2 open_name.run (part s (at + 1)) s at (Err x) → part_from at s ≡ no_part
  no_name (Stops.Fault k p) v = by_name_lem _ v.out
  no_name Stops.Cut v = by_name_lem _ v.out

  module _ (e : ℕ) (v : Reads 2 open_name.run (part s (at + 1)) s at (Ok e)) where
    node-tag : (o : Out Tag) → o ≡ (start_tag plain).run (drop e s) → part_from at s ≡ text_part s (then_out o (λ tag. (in_node tag).run))
    node-tag o q = by_name_lem _ v.out ∙ ap (λ (x : Out Tag). text_part s (then_out x (λ tag. (in_node tag).run))) (sym q)

    module _ (t : TagEnd) (z : EndsAs plain s e (Ok t)) where
      pub open-node : (p : ℕ) → t ≡ Ends.Open p → part_from at s ≡ text_part s (behind_tag (drop p s))
      open-node p q = node-tag _ (ends_open plain s e t z p q).out

      pub empty-node : (p : ℕ) → t ≡ Ends.Empty p → part_from at s ≡ no_part
      empty-node p q = node-tag _ (ends-empty plain s e t z p q).out

    pub failed-node : (x : Stop) → EndsAs plain s e (Err x) → part_from at s ≡ no_part
    failed-node (Stops.Fault k p) z = node-tag _ (ends-failed plain s e (λ i. tag_read plain s e false) (Stops.Fault k p) z).out
    failed-node Stops.Cut z = node-tag _ (ends-failed plain s e (λ i. tag_read plain s e false) Stops.Cut z).out
