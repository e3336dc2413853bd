-- What the answers of the code mean.
use Rattle.std.specs.Prelude.{◌≡◌, true, false, cond, ◌&&◌, List, [], ◌∷◌, ◌++◌, ℕ, zero, suc, ◌+◌, ◌-◌, ◌≤◌, ◌<◌, min, leb, ltb, length, map, take, drop, get_or, set, replicate}
use Rattle.std.specs.Prelude.{Result, Ok, Err, Some, None}
use Rattle.std.specs.Prelude as Std
use Rattle.std.specs.List.{find}
use Rattle.std.specs.Option.{option_map, unwrap_or}
use Rattle.std.proofs.Math.Option.{Option, none, some}
use Rattle.process_list.specs.declared.Depth.{Depth}
use Rattle.process_list.specs.declared.Interpolation.{Interpolation}
use Rattle.process_list.specs.declared.Kind as Kinds
use Rattle.grammar.specs.Parse.{Out, done, fault, cut, then_out, judged_to}
use Rattle.grammar.specs.Grammar.{G, ret, judge, eat, seq, ◌>>◌}
use Rattle.xml.specs.Bytes.{bytes, same, is_quote, equals}
use Rattle.xml.specs.Xml.{byte, word, spaces, text_to, Attribute, text_of, Rules, name_fault, Tag}
use Rattle.xml.specs.Code.{part}
use Rattle.xml.specs.declared.Stop.{Stop}
use Rattle.xml.specs.declared.Stop.TheVariants.{Fault, Cut}
use Rattle.clf.specs.Nodes.{whole_from, behind_digits, cube_shape}
use Rattle.tags.specs.declared.Digits.{Digits}
use Rattle.tags.specs.declared.Attributes.{Attributes}
use Rattle.tags.specs.declared.Span.{Span}
use Rattle.tags.specs.declared.NodeTexts.{NodeTexts}
use Rattle.tags.specs.declared.TagEnd.{TagEnd}
use Rattle.tags.specs.declared.TagEnd.TheVariants as Ends
use Rattle.tags.specs.declared.StartTag.{StartTag}
use Rattle.tags.specs.declared.AttributePlaces.{AttributePlaces}
use Rattle.tags.specs.declared.Shape.{Shape}
use Rattle.refusals.specs.Refusals as Refusal

-- the bytes of s from a up to e, none where e is no place of s
unfoldable pub part_in : List ℕ → ℕ → ℕ → List ℕ
part_in s a e = cond (leb e (length s)) (part s a e) []

-- the attribute whose name and text stand there
abbrev pub attribute_of : List ℕ → AttributePlaces → Attribute
attribute_of s a = record { name = part_in s a.name.start a.name.end; text = part_in s a.text.start a.text.end }

-- the attributes so far, sixteen at most
unfoldable pub attributes_of : List ℕ → Attributes → List Attribute
attributes_of s attributes = map (attribute_of s) (take attributes.count attributes.held)

-- a depth, and the shape of a LUT1D, as the definitions have them
abbrev pub depth_read : Std.Option Depth → Option Depth
depth_read (Some d) = some d
depth_read None = none

abbrev pub shape_read : Std.Option Shape → Option Kinds.Kind
shape_read (Some shape) = some (Kinds.TheVariants.Lut1d shape.entries shape.columns)
shape_read None = none

-- the shape of a LUT3D of this method
abbrev pub cube_read : Interpolation → Std.Option ℕ → Option Kinds.Kind
cube_read interpolation (Some n) = some (Kinds.TheVariants.Lut3d n interpolation)
cube_read interpolation None = none

-- the entries on each axis that a `dim` says, whatever the method is
abbrev pub PointsOf : List ℕ → Std.Option ℕ → Type 0
PointsOf t r = (interpolation : Interpolation) → cube_read interpolation r ≡ cube_shape interpolation t

-- the byte before a place
abbrev pub byte_before : List ℕ → ℕ → ℕ
byte_before s e = get_or s (e - 1) 0

-- white space and a quote
abbrev pub quote : G ℕ
quote = seq spaces (λ x. judge (λ b. cond (is_quote b) 0 Refusal.not_well_formed) eat)

-- behind the name, up to the first quote
abbrev pub to_quote : G ℕ
to_quote = seq spaces (λ x. seq (byte equals Refusal.not_well_formed) (λ y. quote))

-- the text of the attribute whose name ends at e begins at q: behind its first quote
abbrev pub BeginsText : List ℕ → ℕ → ℕ → Type 0
BeginsText s e q = to_quote.run (drop e s) ≡ done (byte_before s q) (drop q s)

-- an attribute read from `at` on, as the grammar's answer
abbrev pub attribute_out : List ℕ → ℕ → Result AttributePlaces Stop → Out Attribute
attribute_out s at (Ok a) = done (record { name = part s at a.name.end; text = part s a.text.start a.text.end }) (drop (a.text.end + 1) s)
attribute_out s at (Err (Fault k p)) = fault k (drop p s)
attribute_out s at (Err Cut) = cut

-- its places are within the bytes, in order, and are those of its name and its text. There is one answer for every `at`: `attribute_placed` (`proofs/AttributeLaws`: `attribute-placed`)
abbrev pub AttributeInside : List ℕ → ℕ → Result AttributePlaces Stop → Type 0
AttributeInside s at (Ok a) =
    (a.name.start ≡ at) × (at < a.name.end) × (a.name.end < a.text.start) × (a.text.start ≤ a.text.end) × (a.text.end < length s) × BeginsText s a.name.end a.text.start
AttributeInside s at (Err (Fault k p)) = (at ≤ p) × (p ≤ length s)
AttributeInside s at (Err Cut) = Unit

-- a name and a text that stand there
abbrev pub places : ℕ → ℕ → ℕ → ℕ → AttributePlaces
places a b c d = record { name = record { start = a; end = b }; text = record { start = c; end = d } }

-- the answer for what the grammar finds in the bytes u that stand at `at`: a name ends behind its bytes, a text at its closing quote, the last byte of the attribute
abbrev pub attribute_placed : ℕ → List ℕ → Out Attribute → Result AttributePlaces Stop
attribute_placed at u (done a r) =
    let t : ℕ = at + (length u - length r) - 1 in
    Ok (places at (at + length a.name) (t - length a.text) t)
attribute_placed at u (fault k r) = Err (Fault k (at + (length u - length r)))
attribute_placed at u cut = Err Cut

-- a start tag with these attributes, as the grammar's answer
abbrev pub end_out : List ℕ → Attributes → Result TagEnd Stop → Out Tag
end_out s attributes (Ok (Ends.Open e)) = done (record { attributes = attributes_of s attributes; empty = false }) (drop e s)
end_out s attributes (Ok (Ends.Empty e)) = done (record { attributes = attributes_of s attributes; empty = true }) (drop e s)
end_out s attributes (Err (Fault k p)) = fault k (drop p s)
end_out s attributes (Err Cut) = cut

-- its places are within the bytes, behind `at`
abbrev pub EndInside : List ℕ → ℕ → Result TagEnd Stop → Type 0
EndInside s at (Ok (Ends.Open e)) = (at < e) × (e ≤ length s)
EndInside s at (Ok (Ends.Empty e)) = (at < e) × (e ≤ length s)
EndInside s at (Err (Fault k p)) = (at ≤ p) × (p ≤ length s)
EndInside s at (Err Cut) = Unit

-- ---- what the steps of the code answer

-- the digits that a text begins with, counted no further than 65,537
pub record DigitsOf (t : List ℕ) (r : Digits) : Type 0 where
  pub value : r.value ≡ min (whole_from 0 t) 65537
  pub within : r.end ≤ length t
  pub rest : drop r.end t ≡ behind_digits t

-- where no text stands
abbrev pub nowhere : Span
nowhere = record { start = 0; end = 0 }

-- no attribute yet
abbrev pub no_attributes : Attributes
no_attributes = record { count = 0; held = replicate 16 (record { name = nowhere; text = nowhere }) }

-- how an answer for a start tag ends, and its attributes; at a fault, and where the bytes end, it has none
abbrev pub end_in : Result StartTag Stop → Result TagEnd Stop
end_in (Ok t) = Ok t.end
end_in (Err stop) = Err stop

abbrev pub attributes_in : Result StartTag Stop → Attributes
attributes_in (Ok t) = t.attributes
attributes_in (Err stop) = no_attributes

-- the tag with its attributes, as the grammar's answer
abbrev pub tag_out : List ℕ → Result StartTag Stop → Out Tag
tag_out s r = end_out s (attributes_in r) (end_in r)

-- one attribute more; a full list stays as it is
unfoldable pub with_attribute : Attributes → ℕ → ℕ → ℕ → ℕ → Attributes
with_attribute attributes a b c d =
    let n = attributes.count in
    cond (ltb n 16) (record { count = n + 1; held = set attributes.held n (places a b c d) }) attributes

-- where the text of the first attribute of the name w stands, if there is one
unfoldable pub text_named : List ℕ → Attributes → List ℕ → Std.Option Span
text_named s attributes w = option_map (λ a. a.text) (find (λ a. same w (part_in s a.name.start a.name.end)) (take attributes.count attributes.held))

-- where it stands; 0, 0 where there is none
abbrev pub text_place : List ℕ → Attributes → List ℕ → Span
text_place s attributes w = unwrap_or (text_named s attributes w) nowhere

-- the answer for it: its place, and that the text stands there
pub record TextStands (s : List ℕ) (attributes : Attributes) (w : List ℕ) (r : Span) : Type 0 where
  pub span : r ≡ text_place s attributes w
  pub text : part_in s r.start r.end ≡ text_of w (attributes_of s attributes)

-- where a node's depths and its id stand
pub record NodeTextsStand (s : List ℕ) (attributes : Attributes) (r : NodeTexts) : Type 0 where
  pub input : TextStands s attributes (bytes "inBitDepth") r.input
  pub output : TextStands s attributes (bytes "outBitDepth") r.output
  pub id : TextStands s attributes (bytes "id") r.id

-- ---- an attribute by its parts: `attribute` is its name, then these

-- behind the first quote, q, of the attribute of the name w
abbrev pub behind_quote : Rules → List ℕ → ℕ → G Attribute
behind_quote rules w q = seq (judge (λ x. rules.texts w x.1) (text_to q)) (λ t. seq eat (λ y. ret (record { name = w; text = t.1 })))

-- the attribute that starts at s, whose name w is followed by r
abbrev pub named : Rules → List Attribute → List ℕ → List ℕ → List ℕ → Out Attribute
named rules attributes w r s = then_out (judged_to (name_fault rules attributes w) w r s) (λ v. (seq to_quote (behind_quote rules v)).run)

-- the answer r, read from `at` on, is o
pub record AttributeIs (s : List ℕ) (at : ℕ) (r : Result AttributePlaces Stop) (o : Out Attribute) : Type 0 where
  pub out : attribute_out s at r ≡ o
  pub inside : AttributeInside s at r

-- ---- the end of a start tag

-- `>` behind these attributes
abbrev pub open_end : Rules → List Attribute → G Tag
open_end rules l = judge (λ x. rules.opened l) eat >> ret (record { attributes = l; empty = false })

-- `/>` behind them
abbrev pub empty_end : Rules → List Attribute → G Tag
empty_end rules l = judge (λ x. rules.emptied l) (word (bytes "/>") 2) >> ret (record { attributes = l; empty = true })

-- the end r, read from `at` on behind the attributes of `attributes`, is o
pub record EndIs (s : List ℕ) (attributes : Attributes) (at : ℕ) (r : Result TagEnd Stop) (o : Out Tag) : Type 0 where
  pub out : end_out s attributes r ≡ o
  pub inside : EndInside s at r
