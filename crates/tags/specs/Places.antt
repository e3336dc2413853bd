-- Where the attributes of a start tag stand: four places for each, its name's first byte and the place behind its last one, its text's first byte and its closing quote.
use Rattle.std.specs.Prelude.{List, [], ◌∷◌, ℕ, ◌+◌, ◌-◌, length, drop}
use Rattle.grammar.specs.Parse.{Out, done, fault, cut}
use Rattle.xml.specs.Xml.{spaces, Attribute, Tag}
use Rattle.tags.specs.Code.{to_quote, no_attributes, with_attribute}
use Rattle.tags.specs.declared.Attributes.{Attributes}

-- the place of s behind what a grammar has read there; 0 where it has read nothing
abbrev pub place_behind : {A : Type 0} → List ℕ → Out A → ℕ
place_behind s (done a r) = length s - length r
place_behind s (fault k r) = 0
place_behind s cut = 0

-- these attributes put behind those so far, as they stand in s from `at` on: a name begins behind the white space, and its text behind the first quote that follows it; the text's closing quote
-- ends the attribute (01: 'quotes single or double, white space may surround `=`')
unfoldable pub attribute_places_from : List ℕ → ℕ → List Attribute → Attributes → Attributes
attribute_places_from s at [] attributes = attributes
attribute_places_from s at (a ∷ l) attributes =
    let n : ℕ = place_behind s (spaces.run (drop at s)) in
    let e : ℕ = n + length a.name in
    let q : ℕ = place_behind s (to_quote.run (drop e s)) in
    let t : ℕ = q + length a.text in
    attribute_places_from s (t + 1) l (with_attribute attributes n e q t)

-- the attributes that are answered of a start tag behind `at`, by what the grammar finds there: all of them where it ends; none at a fault, and none where the bytes end
abbrev pub attribute_places : List ℕ → ℕ → Out Tag → Attributes
attribute_places s at (done t r) = attribute_places_from s at t.attributes no_attributes
attribute_places s at (fault k r) = no_attributes
attribute_places s at cut = no_attributes
