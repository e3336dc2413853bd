-- The end of a start tag, and its loop, as the code goes through them. Assumes nothing.
use mathlib.Core.Path.{◌≡◌, refl, sym, ap, ◌∙◌}
use mathlib.Core.Bool.{Bool, true, false}
use mathlib.Core.List.{List, [], ◌∷◌, ◌++◌, append_assoc, append-nil}
use Prim.Native.Nat.{ℕ, ◌+◌, ◌≤◌, ◌<◌}
use native.Mathlib.Omega.{arith}
use lib.ListN.{length, get_or, drop, length-drop}
use borrow.Author.Tests.{eq-eqb, ne_eqb}
use Rattle.scanning.specs.Steps.{here, past}
use Rattle.grammar.specs.Parse.{Out, done, fault, cut, Parser, Turn, again, last, then_out, ret_p, judged_to, judge_out, look_p, eat_p, turn_out, loop_p}
use Rattle.grammar.specs.Laws.{loop-step, loop-again, loop-fault, loop-cut}
use Rattle.xml.specs.Bytes.{bytes, is_space}
use Rattle.xml.specs.Xml.{word, Attribute, Rules, plain, attribute, TagState, Tag, tag_byte, start_tag}
use Rattle.xml.specs.Code.{part, ReadsFrom, no_value}
use Rattle.xml.specs.CodeLaws.{look_at}
use Rattle.xml.specs.Code.{Scan}
use Rattle.std.specs.Prelude.{Result, Ok, Err}
use Rattle.xml.specs.declared.Stop.{Stop}
use Rattle.xml.specs.declared.Stop.TheVariants.{Fault, Cut}
use Rattle.tags.specs.Code.{part_in, attributes_of, no_attributes, with_attribute, attribute_out, AttributeInside, EndInside, open_end, empty_end, EndIs, end_in, attributes_in}
use Rattle.tags.specs.Rules.{rules_of}
use Rattle.tags.specs.Places.{attribute_places_from, attribute_places}
use Rattle.tags.specs.Ended.{EndsAs, TagRead, TagStops, end_placed, ended, ends_as, ends-placed}
use Rattle.tags.specs.declared.Attributes.{Attributes}
use Rattle.tags.specs.declared.StartTag.{StartTag}
use Rattle.tags.specs.declared.TagEnd.{TagEnd}
use Rattle.tags.specs.declared.TagEnd.TheVariants.{Open, Empty}
use Rattle.tags.specs.declared.TagKind.{TagKind}
use Rattle.tags.specs.declared.TagKind.TheVariants as Kinds
use Rattle.tags.specs.declared.AttributePlaces.{AttributePlaces}
use Rattle.tags.proofs.Lists.{Sized, sized-none, sized-more, attributes-none, attributes-more, length-attributes}
use Rattle.tags.proofs.Words.{part_in_lem}
use Rattle.tags.proofs.Standing.{attributes-space, attributes-attribute}
use Rattle.tags.proofs.AttributeLaws.{verdict-bad, attribute-few}

-- ---- `>`

module _ (rules : Rules) (s : List ℕ) (attributes : Attributes) (at : ℕ) (h : at < length s) where
  abbrev tag_of : Bool → Tag
  tag_of empty = record { attributes = attributes_of s attributes; empty = empty }

  module _ (k : ℕ) (n : k ≡ rules.opened (attributes_of s attributes)) where
    open-read : (open_end rules (attributes_of s attributes)).run (drop at s) ≡ then_out (judged_to k (get_or s at 0) (drop (at + 1) s) (drop at s)) (λ x. ret_p (tag_of false))
    open-read =
        ap (λ (o : Out ℕ). then_out (judge_out (λ x. rules.opened (attributes_of s attributes)) o (drop at s)) (λ x. ret_p (tag_of false))) (ap eat_p (here s at h))
        ∙ ap (λ (m : ℕ). then_out (judged_to m (get_or s at 0) (drop (at + 1) s) (drop at s)) (λ x. ret_p (tag_of false))) (sym n)

    pub open-bad : (k ≡ 0 → ⊥) → EndIs s attributes at (Err (Fault k at)) ((open_end rules (attributes_of s attributes)).run (drop at s))
    open-bad z = record {
      out = sym (open-read ∙ ap (λ (o : Out ℕ). then_out o (λ x. ret_p (tag_of false))) (verdict-bad k (get_or s at 0) (drop (at + 1) s) (drop at s) z));
      inside = (omega arith, omega arith);
    }

    pub open_done : k ≡ 0 → EndIs s attributes at (Ok (Open (at + 1))) ((open_end rules (attributes_of s attributes)).run (drop at s))
    open_done z = record {
      out = sym (open-read ∙ ap (λ (m : ℕ). then_out (judged_to m (get_or s at 0) (drop (at + 1) s) (drop at s)) (λ x. ret_p (tag_of false))) z);
      inside = (omega arith, omega arith);
    }

  -- ---- `/>`

  abbrev pub SlashRead : Scan → Type 0
  SlashRead r = ReadsFrom 2 (word (bytes "/>") 2).run no_value s at r

  empty-read : (r : Out (Unit {0})) → r ≡ (word (bytes "/>") 2).run (drop at s)
      → (empty_end rules (attributes_of s attributes)).run (drop at s) ≡ then_out (judge_out (λ x. rules.emptied (attributes_of s attributes)) r (drop at s)) (λ x. ret_p (tag_of true))
  empty-read r e = ap (λ (o : Out (Unit {0})). then_out (judge_out (λ x. rules.emptied (attributes_of s attributes)) o (drop at s)) (λ x. ret_p (tag_of true))) (sym e)

  module _ (e : ℕ) (v : SlashRead (Ok e)) (k : ℕ) (n : k ≡ rules.emptied (attributes_of s attributes)) where
    empty-judged : (empty_end rules (attributes_of s attributes)).run (drop at s) ≡ then_out (judged_to k (tt {0}) (drop e s) (drop at s)) (λ x. ret_p (tag_of true))
    empty-judged = empty-read (done (tt {0}) (drop e s)) v.out ∙ ap (λ (m : ℕ). then_out (judged_to m (tt {0}) (drop e s) (drop at s)) (λ x. ret_p (tag_of true))) (sym n)

    pub empty-bad : (k ≡ 0 → ⊥) → EndIs s attributes at (Err (Fault k at)) ((empty_end rules (attributes_of s attributes)).run (drop at s))
    empty-bad z = record {
      out = sym (empty-judged ∙ ap (λ (o : Out (Unit {0})). then_out o (λ x. ret_p (tag_of true))) (verdict-bad k (tt {0}) (drop e s) (drop at s) z));
      inside = (omega arith, omega arith);
    }

    pub empty-done : k ≡ 0 → EndIs s attributes at (Ok (Empty e)) ((empty_end rules (attributes_of s attributes)).run (drop at s))
    empty-done z =
        let i : (at + 2 ≤ e) × (e ≤ length s) = v.inside (omega arith) in
        record {
          out = sym (empty-judged ∙ ap (λ (m : ℕ). then_out (judged_to m (tt {0}) (drop e s) (drop at s)) (λ x. ret_p (tag_of true))) z);
          inside = (omega arith, i.1);
        }

  pub empty-failed : (stop : Stop) → SlashRead (Err stop) → EndIs s attributes at (Err stop) ((empty_end rules (attributes_of s attributes)).run (drop at s))
  empty-failed (Fault k p) v = record { out = sym (empty-read (fault k (drop p s)) v.out); inside = v.inside (omega arith) }
  empty-failed Cut v = record { out = sym (empty-read cut v.out); inside = tt }

-- ---- the loop

abbrev state : Bool → List Attribute → TagState
state spaced attributes = record { spaced = spaced; attributes = attributes }

abbrev turn : Rules → TagState → Parser (Turn TagState Tag)
turn rules st = look_p (λ b. (tag_byte rules st b).run)

-- the rest of a start tag
abbrev from : Rules → TagState → Parser Tag
from rules st = loop_p (turn rules) st

start-from : (rules : Rules) (l : List ℕ) → (start_tag rules).run l ≡ from rules (state false []) l
unfolding start_tag
start-from rules l = refl

-- the rest of the start tag, at what is left of the bytes
pub record TagInv (rules : Rules) (s : List ℕ) (at : ℕ) (attributes : Attributes) (spaced : Bool) (i : ℕ) : Type 0 where
  pub low : at ≤ i
  pub sized : Sized attributes
  pub out : (start_tag rules).run (drop at s) ≡ from rules (state spaced (attributes_of s attributes)) (drop i s)
  pub places : (l : List Attribute) → attribute_places_from s at (attributes_of s attributes ++ l) no_attributes ≡ attribute_places_from s i l attributes

pub tag-start : (rules : Rules) (s : List ℕ) (at : ℕ) → TagInv rules s at no_attributes false at
tag-start rules s at = record {
  low = omega arith;
  sized = sized-none;
  out = start-from rules (drop at s) ∙ ap (λ (l : List Attribute). from rules (state false l) (drop at s)) (sym (attributes-none s));
  places = λ l. ap (λ (x : List Attribute). attribute_places_from s at (x ++ l) no_attributes) (attributes-none s);
}

inside-from : (s : List ℕ) (at i : ℕ) (e : Result TagEnd Stop) → at ≤ i → EndInside s i e → EndInside s at e
inside-from s at i (Ok (Open e)) h z = (omega arith, z.1)
inside-from s at i (Ok (Empty e)) h z = (omega arith, z.1)
inside-from s at i (Err (Fault k p)) h z = (omega arith, z.1)
inside-from s at i (Err Cut) h z = tt

last_turn : {S B X : Type 0} (k : S → Parser B) (o : Out X) (b : B) (l : List ℕ) → turn_out k (then_out o (λ x. ret_p (last b))) l ≡ then_out o (λ x. ret_p b)
last_turn k (done x r) b l = refl
last_turn k (fault n r) b l = refl
last_turn k cut b l = refl

module _ {rules : Rules} {s : List ℕ} {at : ℕ} {attributes : Attributes} {spaced : Bool} {i : ℕ} (v : TagInv rules s at attributes spaced i) where
  abbrev st : TagState
  st = state spaced (attributes_of s attributes)

  stand : attributes ≡ attribute_places_from s at (attributes_of s attributes) no_attributes
  unfolding attribute_places_from
  stand = sym (ap (λ (l : List Attribute). attribute_places_from s at l no_attributes) (sym (append-nil (attributes_of s attributes))) ∙ v.places [])

  -- the bytes have ended
  pub tag-end : length s ≤ i → TagStops rules s at (Err Cut) attributes
  tag-end h = (sym (v.out ∙ loop-cut (turn rules) st (drop i s) (ap (turn rules st) (past s i h))), tt, stand)

  module _ (h : i < length s) where
    abbrev b : ℕ
    b = get_or s i 0

    here-turn : turn rules st (drop i s) ≡ (tag_byte rules st b).run (drop i s)
    here-turn = look_at (λ c. (tag_byte rules st c).run) s i h

    -- white space
    pub tag-space : is_space (get_or s i 0) ≡ true → TagInv rules s at attributes true (i + 1)
    tag-space q =
        let e : (tag_byte rules st b).run (drop i s) ≡ done (again (state true (attributes_of s attributes))) (drop (i + 1) s) = rw (q, here s i h) in
        record {
          low = omega (arith, v.low);
          sized = v.sized;
          out = v.out ∙ loop-again (turn rules) st (drop i s) (state true (attributes_of s attributes)) (drop (i + 1) s) (here-turn ∙ e) (omega (arith, ap length (here s i h)));
          places = λ l. v.places l ∙ attributes-space s i h q l attributes;
        }

    module _ (q : is_space (get_or s i 0) ≡ false) where
      ended-tag : (o : Out Tag) (e : Result TagEnd Stop) → EndIs s attributes i e o → turn_out (loop_p (turn rules)) ((tag_byte rules st b).run (drop i s)) (drop i s) ≡ o
          → TagStops rules s at e attributes
      ended-tag o e x z = (
        x.out ∙ sym (v.out ∙ loop-step (turn rules) st (drop i s) ∙ ap (λ (w : Out (Turn TagState Tag)). turn_out (loop_p (turn rules)) w (drop i s)) here-turn ∙ z),
        inside-from s at i e v.low x.inside,
        stand,
      )

      -- `>`
      pub tag_open : get_or s i 0 ≡ 62 → (e : Result TagEnd Stop) → EndIs s attributes i e ((open_end rules (attributes_of s attributes)).run (drop i s))
          → TagStops rules s at e attributes
      tag_open g e x = ended-tag ((open_end rules (attributes_of s attributes)).run (drop i s)) e x
          (rw (q, eq-eqb (get_or s i 0) 62 g)
          (last_turn (loop_p (turn rules)) (judge_out (λ y. rules.opened (attributes_of s attributes)) (eat_p (drop i s)) (drop i s)) (record { attributes = attributes_of s attributes; empty = false })
          (drop i s)))

      module _ (g : get_or s i 0 ≡ 62 → ⊥) where
        -- `/>`
        pub tag-empty : get_or s i 0 ≡ 47 → (e : Result TagEnd Stop) → EndIs s attributes i e ((empty_end rules (attributes_of s attributes)).run (drop i s))
            → TagStops rules s at e attributes
        tag-empty d e x = ended-tag ((empty_end rules (attributes_of s attributes)).run (drop i s)) e x
            (rw (q, ne_eqb (get_or s i 0) 62 g, eq-eqb (get_or s i 0) 47 d)
            (last_turn (loop_p (turn rules)) (judge_out (λ y. rules.emptied (attributes_of s attributes)) ((word (bytes "/>") 2).run (drop i s)) (drop i s))
            (record { attributes = attributes_of s attributes; empty = true }) (drop i s)))

        module _ (d : get_or s i 0 ≡ 47 → ⊥) where
          -- any other byte where no white space stands before
          pub tag-other : spaced ≡ false → TagStops rules s at (Err (Fault 2 i)) attributes
          tag-other z =
              let e : (tag_byte rules st b).run (drop i s) ≡ fault 2 (drop i s) = rw (q, ne_eqb (get_or s i 0) 62 g, ne_eqb (get_or s i 0) 47 d, z) in
              (sym (v.out ∙ loop-fault (turn rules) st (drop i s) 2 (drop i s) (here-turn ∙ e)), (v.low, omega arith), stand)

          module _ (z : spaced ≡ true) where
            abbrev onward : Attribute → Parser (Turn TagState Tag)
            onward a = ret_p (again (state false (attributes_of s attributes ++ a ∷ [])))

            at-attribute : turn rules st (drop i s) ≡ then_out ((attribute rules (attributes_of s attributes)).run (drop i s)) onward
            at-attribute = here-turn ∙ rw (q, ne_eqb (get_or s i 0) 62 g, ne_eqb (get_or s i 0) 47 d, z)

            pub tag-failed : (stop : Stop) → (attribute_out s i (Err stop) ≡ (attribute rules (attributes_of s attributes)).run (drop i s)) × AttributeInside s i (Err stop)
                → TagStops rules s at (Err stop) attributes
            tag-failed (Fault k p) (x, w) =
                (sym (v.out ∙ loop-fault (turn rules) st (drop i s) k (drop p s) (at-attribute ∙ ap (λ (o : Out Attribute). then_out o onward) (sym x))), (omega (arith, v.low), w.1), stand)
            tag-failed Cut (x, w) = (sym (v.out ∙ loop-cut (turn rules) st (drop i s) (at-attribute ∙ ap (λ (o : Out Attribute). then_out o onward) (sym x))), tt, stand)

            module _ (r : AttributePlaces) (o : (attribute_out s i (Ok r) ≡ (attribute rules (attributes_of s attributes)).run (drop i s)) × AttributeInside s i (Ok r)) where
              abbrev e : ℕ
              e = r.name.end

              abbrev a : ℕ
              a = r.text.start

              abbrev t : ℕ
              t = r.text.end

              x : attribute_out s i (Ok r) ≡ (attribute rules (attributes_of s attributes)).run (drop i s)
              x = o.0

              w : AttributeInside s i (Ok r)
              w = o.1

              abbrev one : Attribute
              one = record { name = part s i e; text = part s a t }

              few : attributes.count < 16
              few = omega (arith, length-attributes s attributes v.sized, attribute-few rules (attributes_of s attributes) (drop i s) one (drop (t + 1) s) (sym x))

              more : attributes_of s (with_attribute attributes i e a t) ≡ attributes_of s attributes ++ one ∷ []
              more = attributes-more attributes i e a t few v.sized s
                  ∙ ap (λ (m : List ℕ). attributes_of s attributes ++ record { name = m; text = part_in s a t } ∷ []) (sym (part_in_lem s i e (omega arith)))
                  ∙ ap (λ (m : List ℕ). attributes_of s attributes ++ record { name = part s i e; text = m } ∷ []) (sym (part_in_lem s a t (omega arith)))

              pub tag-attribute : (n : Attributes) → n ≡ with_attribute attributes r.name.start r.name.end r.text.start r.text.end → TagInv rules s at n false (r.text.end + 1)
              tag-attribute n y = rw (y ∙ ap (λ (m : ℕ). with_attribute attributes m e a t) w.0) (record {
                low = omega (arith, v.low);
                sized = sized-more attributes i e a t few v.sized;
                out = v.out
                    ∙ loop-again (turn rules) st (drop i s) (state false (attributes_of s attributes ++ one ∷ [])) (drop (t + 1) s)
                    (at-attribute ∙ ap (λ (o : Out Attribute). then_out o onward) (sym x)) (simp length-drop (omega arith))
                    ∙ ap (λ (l : List Attribute). from rules (state false l) (drop (t + 1) s)) (sym more);
                places = λ l.
                    ap (λ (m : List Attribute). attribute_places_from s at (m ++ l) no_attributes) more
                    ∙ ap (λ (m : List Attribute). attribute_places_from s at m no_attributes) (append_assoc (attributes_of s attributes) (one ∷ []) l)
                    ∙ v.places (one ∷ l)
                    ∙ attributes-attribute s i h q e a t (refl, w.1, w.2, w.3, w.4, w.5) l attributes;
              })

-- a plain tag without attributes
pub open-at-once : (s : List ℕ) (at : ℕ) → at < length s → get_or s at 0 ≡ 62 → EndsAs plain s at (Ok (Open (at + 1)))
unfolding is_space
open-at-once s at h g =
    let p : is_space (get_or s at 0) ≡ false = rw g refl in
    let v : TagStops plain s at (Ok (Open (at + 1))) no_attributes =
    tag_open (tag-start plain s at) h p g (Ok (Open (at + 1))) (open_done plain s no_attributes at h 0 refl refl) in
    ends_as plain s at (Ok (record { end = Open (at + 1); attributes = no_attributes })) v.0 v.1

-- `plain` is what a plain tag asks
pub plainly : (s : List ℕ) (at : ℕ) (e : Result TagEnd Stop) → EndsAs (rules_of Kinds.Plain) s at e → EndsAs plain s at e
unfolding rules_of
plainly s at e v = v

-- ---- the whole start tag: its attributes where it ends, and none where it does not

module _ (kind : TagKind) (s : List ℕ) (at : ℕ) (attributes : Attributes) where
  pub closes : (end : TagEnd) → TagStops (rules_of kind) s at (Ok end) attributes → TagRead kind s at (Ok (record { end = end; attributes = attributes }))
  closes (Open e) v = (v.0, v.1, v.2 ∙ ap (attribute_places s at) v.0)
  closes (Empty e) v = (v.0, v.1, v.2 ∙ ap (attribute_places s at) v.0)

  pub stops : (stop : Stop) → TagStops (rules_of kind) s at (Err stop) attributes → TagRead kind s at (Err stop)
  stops (Fault k p) v = (v.0, v.1, ap (attribute_places s at) v.0)
  stops Cut v = (v.0, tt, ap (attribute_places s at) v.0)

-- there is one answer
abbrev pub tag_with_end : Attributes → Result TagEnd Stop → Result StartTag Stop
tag_with_end attributes (Ok end) = Ok (record { end = end; attributes = attributes })
tag_with_end attributes (Err stop) = Err stop

with-its-end : (r : Result StartTag Stop) → r ≡ tag_with_end (attributes_in r) (end_in r)
with-its-end (Ok t) = refl
with-its-end (Err stop) = refl

pub tag-placed : (kind : TagKind) (s : List ℕ) (at : ℕ) (r : Result StartTag Stop) → TagRead kind s at r
    → r ≡ tag_with_end (attribute_places s at ((start_tag (rules_of kind)).run (drop at s))) (end_placed at (drop at s) (ended ((start_tag (rules_of kind)).run (drop at s))))
tag-placed kind s at r v =
    with-its-end r
    ∙ ap (tag_with_end (attributes_in r)) (ends-placed (rules_of kind) s at (end_in r) (ends_as (rules_of kind) s at r v.0 v.1))
    ∙ ap (λ (l : Attributes). tag_with_end l (end_placed at (drop at s) (ended ((start_tag (rules_of kind)).run (drop at s))))) v.2
