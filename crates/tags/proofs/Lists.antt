-- The attributes so far, as a list: a search by name, and one more. Assumes nothing.
use mathlib.Core.Path.{◌≡◌, refl, sym, ap, ◌∙◌}
use mathlib.Core.Bool.{Bool, true, false, cond}
use mathlib.Core.List.{List, [], ◌∷◌, ◌++◌}
use Prim.Native.Nat.{ℕ, ◌+◌, ◌≤◌, ◌<◌, min}
use native.Mathlib.Omega.{arith}
use lib.ListN.{length, take, set, length-map, length-set}
use Rattle.std.specs.Prelude.{map}
use lib.Dec.{leb}
use borrow.Author.Tests.{lt-ltb, le-ltb, le-leb, lt-leb}
use Rattle.std.specs.Prelude.{Option, Some, None, MatchOption, IsSomeAnd}
use Rattle.std.specs.List.{find}
use Rattle.std.specs.Option.{is_some, option_map, unwrap_or}
use Rattle.std.proofs.lemmas.List.{take_more_set, length-take, map-append}
use Rattle.xml.specs.Bytes.{same}
use Rattle.xml.specs.Xml.{is_named, text_of}
use Rattle.tags.specs.Code.{part_in, attribute_of, attributes_of, nowhere, no_attributes, places, with_attribute, text_named, text_place, TextStands}
use Rattle.tags.specs.declared.AttributePlaces.{AttributePlaces}
use Rattle.tags.specs.declared.Attributes.{Attributes}
use Rattle.tags.specs.declared.Span.{Span}
use Rattle.tags.proofs.Words.{part-nothing}

-- what `map` makes of a found item, whose value is that behind a reference
pub found-map : {A B C : Type 0} (f : A → B) (now : C → A) (o : Option C) (r : Option B) (Post : C → B → Type 0) (u : Option A)
    → MatchOption o (r ≡ None) (λ x. IsSomeAnd r (Post x)) → ((x : C) (y : B) → Post x y → y ≡ f (now x)) → option_map now o ≡ u → r ≡ option_map f u
found-map f now None r Post u m h e = m ∙ ap (option_map f) e
found-map f now (Some x) (Some y) Post u m h e = ap Some (h x y m) ∙ ap (option_map f) e
found-map f now (Some x) None Post u m h e = absurd m

-- ---- an attribute of a name

module _ (s w : List ℕ) where
  abbrev pub test : AttributePlaces → Bool
  test a = same w (part_in s a.name.start a.name.end)

  abbrev pub text : AttributePlaces → Span
  text a = a.text

  abbrev standing : Span → List ℕ
  standing r = part_in s r.start r.end

  named-found : (l : List AttributePlaces) → is_some (option_map text (find test l)) ≡ is_named w (map (attribute_of s) l)
  unfolding is_named
  named-found [] = refl
  named-found (a ∷ l) = go (test a) (named-found l)
    where
      go : (v : Bool) → is_some (option_map text (find test l)) ≡ is_named w (map (attribute_of s) l)
          → is_some (option_map text (cond v (Some a) (find test l))) ≡ cond v true (is_named w (map (attribute_of s) l))
      go true h = refl
      go false h = h

  text-found : (l : List AttributePlaces) → standing (unwrap_or (option_map text (find test l)) nowhere) ≡ text_of w (map (attribute_of s) l)
  unfolding text_of
  text-found [] = part-nothing s
  text-found (a ∷ l) = go (test a) (text-found l)
    where
      go : (v : Bool) → standing (unwrap_or (option_map text (find test l)) nowhere) ≡ text_of w (map (attribute_of s) l)
          → standing (unwrap_or (option_map text (cond v (Some a) (find test l))) nowhere) ≡ cond v (standing a.text) (text_of w (map (attribute_of s) l))
      go true h = refl
      go false h = h

  pub is-named : (attributes : Attributes) → is_some (text_named s attributes w) ≡ is_named w (attributes_of s attributes)
  unfolding attributes_of text_named
  is-named attributes = named-found (take attributes.count attributes.held)

  pub text-stands : (attributes : Attributes) → TextStands s attributes w (text_place s attributes w)
  unfolding attributes_of text_named
  text-stands attributes = record { span = refl; text = text-found (take attributes.count attributes.held) }

-- ---- how many there are

-- there is room for sixteen
abbrev pub Sized : Attributes → Type 0
Sized attributes = length attributes.held ≡ 16

module _ (s : List ℕ) (attributes : Attributes) (z : Sized attributes) where
  pub length-attributes : length (attributes_of s attributes) ≡ min attributes.count 16
  unfolding attributes_of
  length-attributes = simp (length-map, length-take, z)

  pub sixteen : 16 ≤ attributes.count → leb 16 (length (attributes_of s attributes)) ≡ true
  sixteen h = le-leb 16 (length (attributes_of s attributes)) (omega (arith, length-attributes))

  pub fewer : attributes.count < 16 → leb 16 (length (attributes_of s attributes)) ≡ false
  fewer h = lt-leb 16 (length (attributes_of s attributes)) (omega (arith, length-attributes))

-- ---- one attribute more

pub sized-none : Sized no_attributes
sized-none = refl

pub attributes-none : (s : List ℕ) → attributes_of s no_attributes ≡ []
unfolding attributes_of
attributes-none s = refl

module _ (attributes : Attributes) (a b c d : ℕ) where
  -- a list with room for one more
  abbrev grown : Attributes
  grown = record { count = attributes.count + 1; held = set attributes.held attributes.count (places a b c d) }

  pub stored : attributes.count < 16 → grown ≡ with_attribute attributes a b c d
  unfolding with_attribute
  stored h = sym (ap (λ (v : Bool). cond v grown attributes) (lt-ltb attributes.count 16 h))

  pub full : 16 ≤ attributes.count → attributes ≡ with_attribute attributes a b c d
  unfolding with_attribute
  full h = sym (ap (λ (v : Bool). cond v grown attributes) (le-ltb attributes.count 16 h))

  module _ (h : attributes.count < 16) (z : Sized attributes) where
    pub sized-more : Sized (with_attribute attributes a b c d)
    sized-more = ap (λ (x : Attributes). length x.held) (sym (stored h)) ∙ length-set attributes.held attributes.count (places a b c d) ∙ z

    pub attributes-more : (s : List ℕ) → attributes_of s (with_attribute attributes a b c d) ≡ attributes_of s attributes ++ (record { name = part_in s a b; text = part_in s c d } ∷ [])
    unfolding attributes_of
    attributes-more s =
        ap (λ (x : Attributes). map (attribute_of s) (take x.count x.held)) (sym (stored h))
        ∙ ap (map (attribute_of s)) (take_more_set attributes.held attributes.count (places a b c d) (omega arith))
        ∙ map-append (attribute_of s) (take attributes.count attributes.held) (places a b c d ∷ [])
