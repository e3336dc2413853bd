-- Where the attributes of a start tag stand, as its loop goes from place to place. Assumes nothing.
use mathlib.Core.Path.{◌≡◌, refl, ap, ◌∙◌}
use mathlib.Core.Bool.{Bool, true, false, cond}
use mathlib.Core.List.{List, [], ◌∷◌}
use Prim.Native.Nat.{ℕ, ◌+◌, ◌<◌}
use native.Mathlib.Omega.{arith}
use lib.ListN.{length, get_or, drop, length-drop}
use Rattle.scanning.specs.Steps.{here, part_length}
use Rattle.grammar.specs.Parse.{Out, done, fault, cut, then_out, ret_p, span_p, loop_p}
use Rattle.xml.specs.Bytes.{bytes, same, is_space, is_letter, is_digit, is_name_byte, is_quote}
use Rattle.xml.specs.Xml.{spaces, name, text, plain, is_named, attribute, start_tag, Attribute}
use Rattle.xml.specs.Code.{part}
use Rattle.tags.specs.Code.{to_quote, no_attributes, places, with_attribute, AttributeInside}
use Rattle.tags.specs.Places.{place_behind, attribute_places_from, attribute_places}
use Rattle.tags.specs.declared.Attributes.{Attributes}
use Rattle.std.specs.Prelude.{Ok}

module _ (s : List ℕ) (i : ℕ) (h : i < length s) where
  abbrev behind_spaces : ℕ → ℕ
  behind_spaces j = place_behind s (spaces.run (drop j s))

  kept-place : (b : ℕ) (o : Out (List ℕ)) → place_behind s (then_out o (λ w. ret_p (b ∷ w))) ≡ place_behind s o
  kept-place b (done w r) = refl
  kept-place b (fault k r) = refl
  kept-place b cut = refl

  -- at white space it is the place behind what follows
  space-on : is_space (get_or s i 0) ≡ true → behind_spaces i ≡ behind_spaces (i + 1)
  unfolding spaces
  space-on q =
      ap (λ (l : List ℕ). place_behind s (span_p is_space l)) (here s i h)
      ∙ ap (λ (t : Bool). place_behind s (cond t (then_out (span_p is_space (drop (i + 1) s)) (λ w. ret_p (get_or s i 0 ∷ w))) (done [] (get_or s i 0 ∷ drop (i + 1) s)))) q
      ∙ kept-place (get_or s i 0) (span_p is_space (drop (i + 1) s))

  -- at any other byte it is here
  space-here : is_space (get_or s i 0) ≡ false → behind_spaces i ≡ i
  unfolding spaces
  space-here q =
      ap (λ (l : List ℕ). place_behind s (span_p is_space l)) (here s i h)
      ∙ ap (λ (t : Bool). place_behind s (cond t (then_out (span_p is_space (drop (i + 1) s)) (λ w. ret_p (get_or s i 0 ∷ w))) (done [] (get_or s i 0 ∷ drop (i + 1) s)))) q
      ∙ omega (arith, ap length (here s i h), length-drop i s)

  -- white space before the attributes that are left
  pub attributes-space : is_space (get_or s i 0) ≡ true → (l : List Attribute) (attributes : Attributes) → attribute_places_from s i l attributes ≡ attribute_places_from s (i + 1) l attributes
  unfolding attribute_places_from
  attributes-space q [] attributes = refl
  attributes-space q (a ∷ l) attributes = rw (space-on q) refl

  -- the first of the attributes that are left stands here
  pub attributes-attribute : is_space (get_or s i 0) ≡ false → (e a t : ℕ) → AttributeInside s i (Ok (places i e a t)) → (l : List Attribute) (attributes : Attributes)
      → attribute_places_from s i (record { name = part s i e; text = part s a t } ∷ l) attributes ≡ attribute_places_from s (t + 1) l (with_attribute attributes i e a t)
  unfolding attribute_places_from
  attributes-attribute q e a t v l attributes =
      let n : behind_spaces i ≡ i = space-here q in
      let x : i + length (part s i e) ≡ e = omega (arith, v, part_length s i e (omega (arith, v)) (omega (arith, v))) in
      let y : place_behind s (to_quote.run (drop e s)) ≡ a = ap (place_behind s) v.5 ∙ simp length-drop (omega (arith, v)) in
      let z : a + length (part s a t) ≡ t = omega (arith, v, part_length s a t (omega (arith, v)) (omega (arith, v))) in
      rw (n, x, y, z) refl

-- a tag with two attributes behind its name, at place 2 of the bytes: the first one's name stands from 3 to 4, its text from 8 to 9; the second's from 11 to 13 and from 15 to 15
shown : attribute_places (bytes "<t a = 'x' bc=\"\"/>") 2 ((start_tag plain).run (drop 2 (bytes "<t a = 'x' bc=\"\"/>"))) ≡ with_attribute (with_attribute no_attributes 3 4 8 9) 11 13 15 15
unfolding attribute_places_from start_tag attribute name spaces text is_space is_letter is_name_byte is_quote same loop_p is_named with_attribute is_digit
shown = refl
