-- How a start tag ended: the place behind it, and the tag that was read. Laws for callers of `start_tag`, which name no tag. Assumes nothing.
use Rattle.std.specs.Prelude.{◌≡◌, refl, Bool, true, false, List, [], ℕ, ◌+◌, ◌-◌, length, drop}
use Rattle.std.proofs.Common.{sym, ap, ◌∙◌, arith}
use Rattle.grammar.specs.Parse.{Out, done, fault, cut}
use Rattle.xml.specs.Xml.{Attribute, Tag, Rules, start_tag}
use Rattle.xml.specs.Code.{Reads}
use Rattle.xml.specs.CodeLaws.{place-left}
use Rattle.std.specs.Prelude.{Result, Ok, Err}
use Rattle.xml.specs.declared.Stop.{Stop}
use Rattle.xml.specs.declared.Stop.TheVariants.{Fault, Cut}
use Rattle.tags.specs.Rules.{rules_of}
use Rattle.tags.specs.Code.{attributes_of, no_attributes, end_out, EndInside, end_in, attributes_in, tag_out}
use Rattle.tags.specs.Places.{attribute_places_from, attribute_places}
use Rattle.tags.specs.declared.Attributes.{Attributes}
use Rattle.tags.specs.declared.StartTag.{StartTag}
use Rattle.tags.specs.declared.TagEnd.{TagEnd}
use Rattle.tags.specs.declared.TagEnd.TheVariants as Ends
use Rattle.tags.specs.declared.TagKind.{TagKind}

-- the place behind a start tag, open or empty
abbrev pub behind_tag : TagEnd → ℕ
behind_tag (Ends.Open e) = e
behind_tag (Ends.Empty e) = e

-- what `start_tag` ensures of its answer: the tag, its end within the bytes, and its attributes with their places. There is one such answer (`proofs/Ends`: `tag-placed`)
abbrev pub TagRead : TagKind → List ℕ → ℕ → Result StartTag Stop → Type 0
TagRead kind s at r =
    (tag_out s r ≡ (start_tag (rules_of kind)).run (drop at s))
    × EndInside s at (end_in r)
    × (attributes_in r ≡ attribute_places s at ((start_tag (rules_of kind)).run (drop at s)))

-- the same of a tag that ends so behind these attributes, where those up to a fault, or up to the end of the bytes, are kept
abbrev pub TagStops : Rules → List ℕ → ℕ → Result TagEnd Stop → Attributes → Type 0
TagStops rules s at end attributes =
    (end_out s attributes end ≡ (start_tag rules).run (drop at s))
    × EndInside s at end
    × (attributes ≡ attribute_places_from s at (attributes_of s attributes) no_attributes)

-- a tag of the attributes that were read
abbrev pub tag_with : List ℕ → StartTag → Bool → Tag
tag_with s t empty = record { attributes = attributes_of s t.attributes; empty = empty }

abbrev pub is_emptied : TagEnd → Bool
is_emptied (Ends.Open e) = false
is_emptied (Ends.Empty e) = true

-- the tag that was read
unfoldable pub tag_of : List ℕ → StartTag → Tag
tag_of s t = tag_with s t (is_emptied t.end)

-- ---- a start tag without its attributes

-- where it ends, and whether it is empty
abbrev pub ended : Out Tag → Out Bool
ended (done t r) = done t.empty r
ended (fault k r) = fault k r
ended cut = cut

abbrev pub ended_out : List ℕ → Result TagEnd Stop → Out Bool
ended_out s (Ok (Ends.Open e)) = done false (drop e s)
ended_out s (Ok (Ends.Empty e)) = done true (drop e s)
ended_out s (Err (Fault k p)) = fault k (drop p s)
ended_out s (Err Cut) = cut

-- the end for what the grammar finds in the bytes u that stand at `at`
abbrev pub end_placed : ℕ → List ℕ → Out Bool → Result TagEnd Stop
end_placed at u (done false r) = Ok (Ends.Open (at + (length u - length r)))
end_placed at u (done true r) = Ok (Ends.Empty (at + (length u - length r)))
end_placed at u (fault k r) = Err (Fault k (at + (length u - length r)))
end_placed at u cut = Err Cut

-- the end r of the start tag of these rules behind `at`. There is one for every `at`: `end_placed at (drop at s) (ended ((start_tag rules).run (drop at s)))` (`ends-placed`)
pub record EndsAs (rules : Rules) (s : List ℕ) (at : ℕ) (r : Result TagEnd Stop) : Type 0 where
  pub out : ended_out s r ≡ ended ((start_tag rules).run (drop at s))
  pub inside : EndInside s at r

-- the attributes of a start tag that was read, and an answer with these
abbrev pub attributes_read : Out Tag → List Attribute
attributes_read (done t r) = t.attributes
attributes_read (fault k r) = []
attributes_read cut = []

abbrev with_attributes : List Attribute → Out Bool → Out Tag
with_attributes l (done b r) = done (record { attributes = l; empty = b }) r
with_attributes l (fault k r) = fault k r
with_attributes l cut = cut

whole : (o : Out Tag) → with_attributes (attributes_read o) (ended o) ≡ o
whole (done t r) = refl
whole (fault k r) = refl
whole cut = refl

ended-end : (s : List ℕ) (attributes : Attributes) (end : Result TagEnd Stop) → ended_out s end ≡ ended (end_out s attributes end)
ended-end s attributes (Ok (Ends.Open e)) = refl
ended-end s attributes (Ok (Ends.Empty e)) = refl
ended-end s attributes (Err (Fault k p)) = refl
ended-end s attributes (Err Cut) = refl

-- what start_tag answers, without its attributes
pub ends_as : (rules : Rules) (s : List ℕ) (at : ℕ) (r : Result StartTag Stop) → tag_out s r ≡ (start_tag rules).run (drop at s) → EndInside s at (end_in r) → EndsAs rules s at (end_in r)
ends_as rules s at r v i = record { out = ended-end s (attributes_in r) (end_in r) ∙ ap ended v; inside = i }

end-placed : (s : List ℕ) (at : ℕ) (r : Result TagEnd Stop) → EndInside s at r → r ≡ end_placed at (drop at s) (ended_out s r)
end-placed s at (Ok (Ends.Open e)) i = ap (λ x. Ok (Ends.Open x)) (place-left s at e (omega (arith, i.0)) i.1)
end-placed s at (Ok (Ends.Empty e)) i = ap (λ x. Ok (Ends.Empty x)) (place-left s at e (omega (arith, i.0)) i.1)
end-placed s at (Err (Fault k p)) i = ap (λ x. Err (Fault k x)) (place-left s at p i.0 i.1)
end-placed s at (Err Cut) i = refl

module _ (rules : Rules) (s : List ℕ) (at : ℕ) where
  -- there is one end
  pub ends-placed : (r : Result TagEnd Stop) → EndsAs rules s at r → r ≡ end_placed at (drop at s) (ended ((start_tag rules).run (drop at s)))
  ends-placed r v = end-placed s at r v.inside ∙ ap (end_placed at (drop at s)) v.out

  abbrev pub tag_read : Bool → Tag
  tag_read empty = record { attributes = attributes_read ((start_tag rules).run (drop at s)); empty = empty }

  with-end : (r : Result TagEnd Stop) → EndsAs rules s at r → with_attributes (attributes_read ((start_tag rules).run (drop at s))) (ended_out s r) ≡ (start_tag rules).run (drop at s)
  with-end r v = ap (with_attributes (attributes_read ((start_tag rules).run (drop at s)))) v.out ∙ whole ((start_tag rules).run (drop at s))

  module _ (end : TagEnd) (v : EndsAs rules s at (Ok end)) where
    pub ends_open : (e : ℕ) → end ≡ Ends.Open e → Reads 1 (start_tag rules).run (λ i. tag_read false) s at (Ok e)
    ends_open e q =
        let w : EndsAs rules s at (Ok (Ends.Open e)) = rw q at v in
        record { out = with-end (Ok (Ends.Open e)) w; inside = (omega (arith, w.inside), w.inside.1) }

    pub ends-empty : (e : ℕ) → end ≡ Ends.Empty e → Reads 1 (start_tag rules).run (λ i. tag_read true) s at (Ok e)
    ends-empty e q =
        let w : EndsAs rules s at (Ok (Ends.Empty e)) = rw q at v in
        record { out = with-end (Ok (Ends.Empty e)) w; inside = (omega (arith, w.inside), w.inside.1) }

  -- a fault, or the end of the bytes, whatever the value was to be
  pub ends-failed : (value : ℕ → Tag) (stop : Stop) → EndsAs rules s at (Err stop) → Reads 1 (start_tag rules).run value s at (Err stop)
  ends-failed value (Fault k p) v = record { out = with-end (Err (Fault k p)) v; inside = v.inside }
  ends-failed value Cut v = record { out = with-end (Err Cut) v; inside = tt }

-- ---- with its attributes

module _ (rules : Rules) (kind : TagKind) (r : rules_of kind ≡ rules) (s : List ℕ) (at : ℕ) where
  by-rules : (o : Result StartTag Stop) → TagRead kind s at o → tag_out s o ≡ (start_tag rules).run (drop at s)
  by-rules o v = v.0 ∙ ap (λ (l : Rules). (start_tag l).run (drop at s)) r

  module _ (t : StartTag) (v : TagRead kind s at (Ok t)) where
    whole-end : (end : TagEnd) → t.end ≡ end → (end_out s t.attributes (Ok end) ≡ (start_tag rules).run (drop at s)) × EndInside s at (Ok end)
    whole-end end q = (ap (λ (x : TagEnd). end_out s t.attributes (Ok x)) (sym q) ∙ by-rules (Ok t) v, rw q at v.1)

    -- ---- by how it ended

    pub tag_open : (e : ℕ) → t.end ≡ Ends.Open e → Reads 1 (start_tag rules).run (λ i. tag_with s t false) s at (Ok e)
    tag_open e q = let u = whole-end (Ends.Open e) q in record { out = u.0; inside = (omega (arith, u.1), u.1.1) }

    pub tag-empty : (e : ℕ) → t.end ≡ Ends.Empty e → Reads 1 (start_tag rules).run (λ i. tag_with s t true) s at (Ok e)
    tag-empty e q = let u = whole-end (Ends.Empty e) q in record { out = u.0; inside = (omega (arith, u.1), u.1.1) }

    -- ---- where open and empty are alike

    pub tag-reads : Reads 1 (start_tag rules).run (λ e. tag_of s t) s at (Ok (behind_tag t.end))
    unfolding tag_of
    tag-reads = go t.end (whole-end t.end refl)
      where
        go : (end : TagEnd) → (end_out s t.attributes (Ok end) ≡ (start_tag rules).run (drop at s)) × EndInside s at (Ok end)
            → Reads 1 (start_tag rules).run (λ e. tag_with s t (is_emptied end)) s at (Ok (behind_tag end))
        go (Ends.Open e) u = record { out = u.0; inside = (omega (arith, u.1), u.1.1) }
        go (Ends.Empty e) u = record { out = u.0; inside = (omega (arith, u.1), u.1.1) }

  -- a fault, or the end of the bytes, whatever the value was to be
  pub tag-failed : (value : ℕ → Tag) (stop : Stop) → TagRead kind s at (Err stop) → Reads 1 (start_tag rules).run value s at (Err stop)
  tag-failed value (Fault k p) v = record { out = by-rules (Err (Fault k p)) v; inside = v.1 }
  tag-failed value Cut v = record { out = by-rules (Err Cut) v; inside = tt }
