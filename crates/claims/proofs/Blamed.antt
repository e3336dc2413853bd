-- Which numbers the faults of a text have, and what stands at a 9 or a 25: XML, and elements. Assumes nothing.
use mathlib.Core.Path.{◌≡◌, refl, sym, ◌∙◌, subst}
use mathlib.Core.Bool.{Bool, true, false, cond, not, ◌&&◌, ◌||◌, false≢true}
use mathlib.Core.List.{List, [], ◌∷◌, ◌++◌}
use Prim.Native.Nat.{ℕ, zero, suc}
use Prim.Native.Char.{code}
use lib.Dec.{eqb, leb}
use lib.ListN.{length}
use Rattle.grammar.specs.Parse.{again, last}
use Rattle.grammar.specs.Grammar.{G}
use Rattle.xml.specs.Bytes.{bytes, same, is_space, is_letter, is_name_byte, is_quote, less_than, greater_than, slash, exclamation, question, ampersand, equals, dash}
use Rattle.xml.specs.AmongLaws.{among-fault}
use Rattle.xml.specs.Xml.{spaces, name, one_of, entity_names, entity-names, entity, comment_part, comment, text, Attribute, is_named, Rules, plain, name_fault, attribute, TagState, Tag}
use Rattle.xml.specs.Xml.{tag_byte, start_tag, open_name, close_name, end_tag, stray_end}
use Rattle.xml.specs.Elements.{misc, child, close, markup, between, Holder, after_part, held, forbidden, only_end, text_content, text_element, info_byte, info_rest, info_element, info}
use Rattle.claims.specs.Refusals.{is_text_fault, ToldApart}
use Rattle.claims.proofs.Faults.{Saying, Blames, Fair, fair-anywhere, fair-zero, fair-by, fair-cond, blames-ret, blames-bad, blames-cond, blames-look, blames-look_two, blames-judge, blames-settle}
use Rattle.claims.proofs.Faults.{blames-blame, blames-kept, blames-eat, blames-span, blames-byte, blames-word, blames-seq, blames-loop}

-- a fault of the text has one of its numbers; and where that is 9 or 25, such a token stands at the place
pub record Textual (k : ℕ) (r : List ℕ) : Type 0 where
  pub known : is_text_fault k ≡ true
  pub told : ToldApart k r

abbrev pub Well : {A : Type 0} → G A → Type 0
Well p = Blames Textual p

abbrev pub Right : ℕ → Type 0
Right k = Fair Textual k

-- a number of the text, but neither 9 nor 25
abbrev is_other : ℕ → Bool
is_other k = is_text_fault k && not (eqb k 9 || eqb k 25)

first_of : (a b : Bool) → (a && b) ≡ true → a ≡ true
first_of true b h = refl
first_of false b h = absurd (false≢true h)

-- of a number that is neither 9 nor 25 nothing is asked
pub elsewhere : (f : ℕ → Bool) → f 9 ≡ false → f 25 ≡ false → (k : ℕ) → f k ≡ true → (r : List ℕ) → ToldApart k r
elsewhere f a b k h r = record {
  malformed = λ e. absurd (false≢true (sym a ∙ subst (λ (n : ℕ). f n ≡ true) e h));
  out_of_bounds = λ e. absurd (false≢true (sym b ∙ subst (λ (n : ℕ). f n ≡ true) e h));
}

pub other : (k : ℕ) → is_other k ≡ true → (r : List ℕ) → Textual k r
other k h r = record { known = first_of (is_text_fault k) (not (eqb k 9 || eqb k 25)) h; told = elsewhere is_other refl refl k h r }

pub right : (k : ℕ) → is_other k ≡ true → Right k
right k h = fair-by k (other k h)

pub two : Right 2
two = right 2 refl

pub three : Right 3
three = right 3 refl

pub five : Right 5
five = right 5 refl

-- ---- names, `&` forms, comments: whatever is said of 2 and 3, so that their places may move

module _ {P : Saying} (second : Fair P 2) where
  name-fair : Blames P name
  unfolding name
  name-fair = blames-look (λ b. blames-cond (is_letter b) (blames-span is_name_byte) (blames-bad 2 (second.is 1 refl)))

  close_name-fair : Blames P close_name
  unfolding close_name
  close_name-fair = blames-seq (blames-seq blames-eat (λ a. blames-eat)) (λ a. name-fair)

  module _ (third : Fair P 3) where
    entity-name-fair : Blames P (one_of [] 3 entity_names entity-names)
    entity-name-fair = record { number = λ s k r e. subst (λ (n : ℕ). P n r) (sym (among-fault [] 3 entity_names s k r e)) (third.is 2 refl r) }

    part-fair : Blames P comment_part
    unfolding comment_part
    part-fair =
        blames-seq (blames-seq (blames-span (λ b. not (eqb b dash))) (λ a. blames-eat)) (λ a. blames-look (λ b.
        blames-cond (eqb b dash) (blames-seq (blames-seq blames-eat (λ a. blames-byte greater_than 2 second)) (λ a. blames-ret (last tt))) (blames-ret (again tt))))

spaces-fair : {P : Saying} → Blames P spaces
unfolding spaces
spaces-fair = blames-span is_space

module _ {P : Saying} (second : Fair P 2) (third : Fair P 3) where
  entity-fair : Blames P entity
  unfolding entity
  entity-fair =
      blames-blame (blames-seq (blames-seq (blames-seq blames-eat (λ a. entity-name-fair (fair-anywhere second) (fair-anywhere third))) (λ u. blames-byte (code ";") 3 (fair-anywhere third)))
      (λ b. blames-ret tt))

  comment-fair : Blames P comment
  unfolding comment
  comment-fair =
      blames-blame (blames-seq (blames-word (bytes "<!--") 3 (fair-anywhere third)) (λ a. blames-loop (λ st. part-fair (fair-anywhere second) (fair-anywhere third)) tt))

pub name-well : Well name
name-well = name-fair two

pub spaces-well : Well spaces
spaces-well = spaces-fair

pub entity-well : Well entity
entity-well = entity-fair two three

pub comment-well : Well comment
comment-well = comment-fair two three

-- ---- texts and tags

pub text-well : (stop : ℕ → Bool) → Well (text stop)
unfolding text
text-well stop =
    blames-kept (blames-loop (λ st. blames-look (λ b.
    blames-cond (stop b) (blames-ret (last tt))
    (blames-cond (eqb b less_than) (blames-bad 2 (other 2 refl))
    (blames-cond (eqb b ampersand) (blames-seq entity-well (λ a. blames-ret (again tt))) (blames-seq blames-eat (λ a. blames-ret (again tt))))))) tt)

pub record RightRules (rules : Rules) : Type 0 where
  pub names : (w : List ℕ) → Right (rules.names w)
  pub texts : (w t : List ℕ) → Right (rules.texts w t)
  pub opened : (l : List Attribute) → Right (rules.opened l)
  pub emptied : (l : List Attribute) → Right (rules.emptied l)

pub plain-right : RightRules plain
plain-right = record { names = λ w. fair-zero; texts = λ w t. fair-zero; opened = λ l. fair-zero; emptied = λ l. fair-zero }

module _ (rules : Rules) (right : RightRules rules) where
  attribute-well : (attributes : List Attribute) → Well (attribute rules attributes)
  unfolding attribute
  attribute-well attributes =
      blames-seq (blames-judge (name_fault rules attributes) (λ w. fair-cond (is_named w attributes) two (fair-cond (leb 16 (length attributes)) three (right.names w))) name-well)
      (λ w. blames-seq spaces-well (λ a. blames-seq (blames-byte equals 2 two) (λ a. blames-seq spaces-well
      (λ a. blames-seq (blames-judge (λ b. cond (is_quote b) 0 2) (λ b. fair-cond (is_quote b) fair-zero two) blames-eat)
      (λ q. blames-seq (blames-judge (λ x. rules.texts w x.1) (λ x. right.texts w x.1) (text-well (λ b. eqb b q)))
      (λ t. blames-seq blames-eat (λ a. blames-ret (record { name = w; text = t.1 }))))))))

  tag-well : (st : TagState) (b : ℕ) → Well (tag_byte rules st b)
  tag-well st b =
      blames-cond (is_space b) (blames-seq blames-eat (λ a. blames-ret (again (record { spaced = true; attributes = st.attributes }))))
      (blames-cond (eqb b greater_than)
      (blames-seq (blames-judge (λ x. rules.opened st.attributes) (λ x. right.opened st.attributes) blames-eat)
      (λ a. blames-ret (last (record { attributes = st.attributes; empty = false }))))
      (blames-cond (eqb b slash)
      (blames-seq (blames-judge (λ x. rules.emptied st.attributes) (λ x. right.emptied st.attributes) (blames-word (bytes "/>") 2 two))
      (λ a. blames-ret (last (record { attributes = st.attributes; empty = true }))))
      (blames-cond st.spaced (blames-seq (attribute-well st.attributes) (λ a. blames-ret (again (record { spaced = false; attributes = st.attributes ++ a ∷ [] })))) (blames-bad 2 (other 2 refl)))))

  pub start_tag-well : Well (start_tag rules)
  unfolding start_tag
  start_tag-well = blames-loop (λ st. blames-look (tag-well st)) (record { spaced = false; attributes = [] })

pub open_name-well : Well open_name
unfolding open_name
open_name-well = blames-seq blames-eat (λ a. name-well)

close_name-well : Well close_name
close_name-well = close_name-fair two

pub end_tag-well : (w : List ℕ) (missing : ℕ) → Right missing → Well (end_tag w missing)
unfolding end_tag
end_tag-well w missing h =
    blames-settle missing h
    (blames-seq (blames-seq (blames-seq (blames-judge (λ n. cond (same n w) 0 2) (λ n. fair-cond (same n w) fair-zero (fair-anywhere two)) (close_name-fair (fair-anywhere two))) (λ a. spaces-fair))
    (λ a. blames-byte greater_than 2 (fair-anywhere two))) (λ a. blames-ret tt))

pub stray_end-well : Well stray_end
unfolding stray_end
stray_end-well = blames-seq (blames-judge (λ n. 2) (λ n. two) close_name-well) (λ a. blames-ret tt)

-- ---- between elements

module _ {C : Type 0} {end : G (Unit {0})} (fault : List ℕ → ℕ) {body : List ℕ → G C} (ends : Well end) (names : (w : List ℕ) → Right (fault w)) (bodies : (w : List ℕ) → Well (body w)) where
  markup-well : (a b : ℕ) → Well (markup end fault body a b)
  markup-well a b =
      blames-cond (eqb b slash) (blames-seq ends (λ u. blames-ret close))
      (blames-cond (eqb b exclamation) (blames-seq comment-well (λ u. blames-ret misc))
      (blames-cond (eqb b question) (blames-bad 3 (other 3 refl))
      (blames-seq (blames-judge fault names open_name-well) (λ w. blames-seq (bodies w) (λ v. blames-ret (child v))))))

  pub between-well : Well (between end fault body)
  unfolding between
  between-well =
      blames-look (λ b. blames-cond (is_space b) (blames-seq blames-eat (λ u. blames-ret misc))
      (blames-cond (eqb b less_than) (blames-look_two markup-well)
      (blames-cond (eqb b ampersand) (blames-seq (blames-settle 5 five (entity-fair (fair-anywhere two) (fair-anywhere three))) (λ u. blames-bad 5 (other 5 refl))) (blames-bad 5 (other 5 refl)))))

pub held-well : {S : Type 0} (h : Holder S) → ((st : S) → Right (h.missing st)) → ((st : S) (w : List ℕ) → Right (h.fault st w)) → ((st : S) (w : List ℕ) → Well (h.body st w))
    → (st : S) → Well (held h st)
held-well h m f b st =
    blames-loop (λ st. blames-seq (between-well (h.fault st) (end_tag-well h.name (h.missing st) (m st)) (f st) (b st)) (λ p. blames-ret (after_part st p))) st

-- ---- where no element may stand, and text

stranger-well : {A : Type 0} (b : ℕ) → Well (forbidden {A = A} b)
stranger-well b =
    blames-cond (eqb b exclamation) (blames-seq (blames-settle 3 three (comment-fair (fair-anywhere two) (fair-anywhere three))) (λ u. blames-bad 3 (other 3 refl)))
    (blames-cond (eqb b question) (blames-bad 3 (other 3 refl)) (blames-seq (blames-judge (λ w. 5) (λ w. five) open_name-well) (λ u. blames-bad 5 (other 5 refl))))

pub only_end-well : (w : List ℕ) (missing : ℕ) → Right missing → Well (only_end w missing)
unfolding only_end
only_end-well w missing h = blames-look_two (λ a b. blames-cond (eqb b slash) (end_tag-well w missing h) (stranger-well b))

content-well : (w : List ℕ) → Well (text_content w)
unfolding text_content
content-well w = blames-seq (text-well (λ b. eqb b less_than)) (λ t. only_end-well w 0 fair-zero)

pub text_element-well : (w : List ℕ) → Well (text_element w)
unfolding text_element
text_element-well w = blames-seq (start_tag-well plain plain-right) (λ tag. blames-cond tag.empty (blames-ret tt) (content-well w))

-- ---- Info

module _ (element : G (Unit {0})) (inner : Well element) where
  info_byte-well : (w : List ℕ) (b : ℕ) → Well (info_byte element w b)
  info_byte-well w b =
      blames-cond (eqb b less_than) (blames-look_two (λ a c.
      blames-cond (eqb c slash) (blames-seq (end_tag-well w 0 fair-zero) (λ u. blames-ret (last tt)))
      (blames-cond (eqb c exclamation) (blames-seq comment-well (λ u. blames-ret (again tt)))
      (blames-cond (eqb c question) (blames-bad 3 (other 3 refl)) (blames-seq inner (λ u. blames-ret (again tt)))))))
      (blames-cond (eqb b ampersand) (blames-seq entity-well (λ u. blames-ret (again tt))) (blames-seq blames-eat (λ u. blames-ret (again tt))))

  info_rest-well : (w : List ℕ) (tag : Tag) → Well (info_rest element w tag)
  info_rest-well w tag = blames-cond tag.empty (blames-ret tt) (blames-loop (λ st. blames-look (info_byte-well w)) tt)

info_element-well : (n : ℕ) → Well (info_element n)
unfolding info_element
info_element-well zero = blames-seq (blames-judge (λ w. 3) (λ w. three) open_name-well) (λ u. blames-ret tt)
info_element-well (suc n) = blames-seq open_name-well (λ w. blames-seq (start_tag-well plain plain-right) (λ tag. info_rest-well (info_element n) (info_element-well n) w tag))

pub info-well : Well info
unfolding info
info-well = blames-seq (start_tag-well plain plain-right) (info_rest-well (info_element 16) (info_element-well 16) (bytes "Info"))
