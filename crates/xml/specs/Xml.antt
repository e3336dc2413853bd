-- Names, `&` forms, texts, comments and tags, as document 01 (The file we carry, Refusal numbers) carries XML. Each is a grammar: 'cut' is refusal 1, and a place is where the bytes of a fault begin.
use Rattle.std.specs.Prelude.{refl, Bool, true, false, cond, not, List, [], ◌∷◌, ◌++◌, ℕ, length, eqb, leb}
use Prim.Native.Char.{code}
use Rattle.grammar.specs.Parse.{Turn, again, last}
use Rattle.grammar.specs.Grammar.{G, ret, bad, look, judge, settle, blame, kept, eat, span, seq, loop, ◌>>=◌, ◌>>◌}
use Rattle.xml.specs.Among.{among}
use Rattle.xml.specs.AmongLaws.{AllNames, among-answer}
use Rattle.xml.specs.Bytes.{bytes, same, is_space, is_letter, is_digit, is_name_byte, is_quote, less_than, greater_than, slash, ampersand, equals, dash}
use Rattle.refusals.specs.Refusals as Refusal

-- the byte c, or the fault k at the byte that stands there
abbrev pub byte : ℕ → ℕ → G ℕ
byte c k = judge (λ b. cond (eqb b c) 0 k) eat

-- the bytes of a word, or the fault k at the first byte that differs
abbrev pub word : List ℕ → ℕ → G (Unit {0})
word [] k = ret tt
word (c ∷ w) k = byte c k >> word w k

-- white space, if any
unfoldable pub spaces : G (List ℕ)
spaces = span is_space

-- 'A name is an ASCII letter, then letters, digits, `_ : - .`'; another first byte is 2 there. 'A name that touches the end of the bytes is cut short'
unfoldable pub name : G (List ℕ)
name = look (λ b. cond (is_letter b) (span is_name_byte) (bad Refusal.not_well_formed))

-- the bytes `lead` and one of these names behind them, each with what it stands for; else the fault k at the first byte
abbrev pub one_of : {A : Type 0} → List ℕ → ℕ → (l : List (List ℕ × A)) → AllNames l → G A
one_of lead k l names = record { run = among lead k l; law = among-answer lead k l names }

-- ---- '`&` only as amp, lt, gt, quot or apos, any other `&` is 3', at the `&`

abbrev pub entity_names : List (List ℕ × Unit {0})
entity_names = (bytes "amp", tt) ∷ (bytes "lt", tt) ∷ (bytes "gt", tt) ∷ (bytes "quot", tt) ∷ (bytes "apos", tt) ∷ []

pub entity-names : AllNames entity_names
unfolding is_letter is_digit is_name_byte
entity-names = (refl, (refl, (refl, (refl, (refl, tt)))))

unfoldable pub entity : G (Unit {0})
entity = blame (eat >> one_of [] Refusal.form_not_carried entity_names entity-names >> byte (code ";") Refusal.form_not_carried >> ret tt)

-- ---- comments: '`--` in a comment [is] 2', 'any other `<!` [is] 3', both at the comment's first byte

-- after a dash of a comment: a second one is its end, and must be
abbrev pub after_dash : ℕ → G (Turn (Unit {0}) (Unit {0}))
after_dash b = cond (eqb b dash) (eat >> byte greater_than Refusal.not_well_formed >> ret (last tt)) (ret (again tt))

-- a comment's bytes to the next dash
unfoldable pub comment_part : G (Turn (Unit {0}) (Unit {0}))
comment_part = span (λ b. not (eqb b dash)) >> eat >> look after_dash

unfoldable pub comment : G (Unit {0})
comment = blame (word (bytes "<!--") Refusal.form_not_carried >> loop (λ (st : Unit {0}). comment_part) tt)

-- ---- texts: bytes and `&` forms, up to a byte that stops them and is not read

-- by the next byte: the end, '`<` in an attribute's text [is] 2', an `&` form, or any other byte
abbrev pub text_byte : (ℕ → Bool) → ℕ → G (Turn (Unit {0}) (Unit {0}))
text_byte stop b =
    cond (stop b) (ret (last tt))
    (cond (eqb b less_than) (bad Refusal.not_well_formed)
    (cond (eqb b ampersand) (entity >> ret (again tt)) (eat >> ret (again tt))))

-- a text: its bytes as they stand
unfoldable pub text : (ℕ → Bool) → G ((Unit {0}) × List ℕ)
text stop = kept (loop (λ (st : Unit {0}). look (text_byte stop)) tt)

-- a text up to this byte: an attribute's up to its closing quote, an element's up to a `<`
abbrev pub text_to : ℕ → G ((Unit {0}) × List ℕ)
text_to q = text (λ b. eqb b q)

-- ---- attributes

pub record Attribute : Type 0 where
  pub name : List ℕ
  pub text : List ℕ

-- whether an attribute of this name is among these
unfoldable pub is_named : List ℕ → List Attribute → Bool
is_named w [] = false
is_named w (a ∷ l) = cond (same w a.name) true (is_named w l)

-- the text of the first attribute of this name; no bytes where there is none
unfoldable pub text_of : List ℕ → List Attribute → List ℕ
text_of w [] = []
text_of w (a ∷ l) = cond (same w a.name) a.text (text_of w l)

-- what a tag asks of its attributes: the fault of a name, once it has ended; the fault of a text, judged at its closing quote and placed behind its first quote;
-- what is missing at `>`, and what is missing at `/>`. 0 is no fault
pub record Rules : Type 0 where
  pub names : List ℕ → ℕ
  pub texts : List ℕ → List ℕ → ℕ
  pub opened : List Attribute → ℕ
  pub emptied : List Attribute → ℕ

-- 'On every tag, attributes not named here are passed over': a tag that asks nothing
abbrev pub plain : Rules
plain = record { names = λ w. 0; texts = λ w t. 0; opened = λ l. 0; emptied = λ l. 0 }

-- 'At most 16 attributes on a tag'
abbrev pub most_attributes : ℕ
most_attributes = 16

-- 'At most 16 attributes on a tag, none twice': a second one of its name is 2, the seventeenth 3, at its first byte once its name has ended
abbrev pub name_fault : Rules → List Attribute → List ℕ → ℕ
name_fault rules attributes w = cond (is_named w attributes) Refusal.not_well_formed (cond (leb most_attributes (length attributes)) Refusal.form_not_carried (rules.names w))

-- an attribute after others: 'white space may surround `=`'
unfoldable pub attribute : Rules → List Attribute → G Attribute
attribute rules attributes = do
  w ← judge (name_fault rules attributes) name
  spaces
  byte equals Refusal.not_well_formed
  spaces
  q ← judge (λ b. cond (is_quote b) 0 Refusal.not_well_formed) eat
  t ← judge (λ x. rules.texts w x.1) (text_to q)
  eat
  ret (record { name = w; text = t.1 })

-- ---- start tags

-- where a start tag has got to: whether white space stands before what comes, and the attributes so far
pub record TagState : Type 0 where
  pub spaced : Bool
  pub attributes : List Attribute

-- a start tag: its attributes, and whether it ends in `/>`
pub record Tag : Type 0 where
  pub attributes : List Attribute
  pub empty : Bool

-- the next part of a start tag: white space, its end, or an attribute, which white space parts from what stands before; any other byte is 2 there
abbrev pub tag_byte : Rules → TagState → ℕ → G (Turn TagState Tag)
tag_byte rules st b =
    cond (is_space b) (eat >> ret (again (record { spaced = true; attributes = st.attributes })))
    (cond (eqb b greater_than) (judge (λ x. rules.opened st.attributes) eat >> ret (last (record { attributes = st.attributes; empty = false })))
    (cond (eqb b slash) (judge (λ x. rules.emptied st.attributes) (word (bytes "/>") Refusal.not_well_formed) >> ret (last (record { attributes = st.attributes; empty = true })))
    (cond st.spaced
    (seq (attribute rules st.attributes) (λ a. ret (again (record { spaced = false; attributes = st.attributes ++ a ∷ [] }))))
    (bad Refusal.not_well_formed))))

-- a start tag after its name
unfoldable pub start_tag : Rules → G Tag
start_tag rules = loop (λ st. look (tag_byte rules st)) (record { spaced = false; attributes = [] })

-- `<` and the name behind it
unfoldable pub open_name : G (List ℕ)
open_name = eat >> name

-- ---- end tags

-- `</` and the name behind it
unfoldable pub close_name : G (List ℕ)
close_name = eat >> eat >> name

-- the end tag of an element: another name is 2 at its `<`, once the name has ended. What is missing before it, or broken, is the fault `missing` at its `<`:
-- 'at the first byte of .. an end tag nothing is judged until it has ended or is not well formed'
unfoldable pub end_tag : List ℕ → ℕ → G (Unit {0})
end_tag w missing = settle missing (judge (λ n. cond (same n w) 0 Refusal.not_well_formed) close_name >> spaces >> byte greater_than Refusal.not_well_formed >> ret tt)

-- an end tag where no element is open is 2 at its `<`
unfoldable pub stray_end : G (Unit {0})
stray_end = judge (λ n. Refusal.not_well_formed) close_name >> ret tt
