-- What stands inside elements: elements, text alone, or anything (Info).
use Rattle.std.specs.Prelude.{cond, List, ℕ, zero, suc, eqb}
use Rattle.grammar.specs.Parse.{Turn, again, last}
use Rattle.grammar.specs.Grammar.{G, ret, bad, look, look_two, judge, settle, eat, seq, loop, ◌>>=◌, ◌>>◌}
use Rattle.xml.specs.Bytes.{bytes, is_space, less_than, slash, exclamation, question, ampersand}
use Rattle.xml.specs.Xml.{entity, comment, text_to, Tag, plain, start_tag, open_name, end_tag}
use Rattle.refusals.specs.Refusals as Refusal

-- ---- between elements

-- what is found there: white space or a comment, a child, or the end
pub data Part (C : Type 0) : Type 0 where
  misc : Part C
  child : C → Part C
  close : Part C

module _ {C : Type 0} where
  -- by the byte behind a `<`: the end tag, a comment, 'any other `<!` or `<?` is 3', or a child's start tag, whose name is judged at its `<` once it has ended
  abbrev pub markup : G (Unit {0}) → (List ℕ → ℕ) → (List ℕ → G C) → ℕ → ℕ → G (Part C)
  markup end fault body a b =
      cond (eqb b slash) (end >> ret close)
      (cond (eqb b exclamation) (comment >> ret misc)
      (cond (eqb b question) (bad Refusal.form_not_carried)
      (seq (judge fault open_name) (λ w. seq (body w) (λ v. ret (child v))))))

  -- (`settle 5` of an `&` form is never done, so that the `bad` behind it is never taken.)
  -- 'white space and comments may stand .. between elements'; 'bare text between elements is 5', at that byte; an `&` there is 5, or 3 if it is no `&` form
  abbrev pub between_byte : G (Unit {0}) → (List ℕ → ℕ) → (List ℕ → G C) → ℕ → G (Part C)
  between_byte end fault body b =
      cond (is_space b) (eat >> ret misc)
      (cond (eqb b less_than) (look_two (markup end fault body))
      (cond (eqb b ampersand) (settle Refusal.wrong_element entity >> bad Refusal.wrong_element) (bad Refusal.wrong_element)))

  -- the next part between elements, by how the end tag reads, which names are at fault, and what a child of a name is
  unfoldable pub between : G (Unit {0}) → (List ℕ → ℕ) → (List ℕ → G C) → G (Part C)
  between end fault body = look (between_byte end fault body)

-- ---- an element that holds elements

-- how its content goes from state to state: what is missing at the end tag, which names are at fault, and the state after a child
pub record Holder (S : Type 0) : Type 0 where
  pub name : List ℕ
  pub missing : S → ℕ
  pub fault : S → List ℕ → ℕ
  pub body : S → List ℕ → G S

module _ {S : Type 0} where
  abbrev pub after_part : S → Part S → Turn S S
  after_part st misc = again st
  after_part st (child v) = again v
  after_part st close = last st

  -- the next part of its content
  abbrev pub held_part : Holder S → S → G (Turn S S)
  held_part h st = seq (between (end_tag h.name (h.missing st)) (h.fault st) (h.body st)) (λ p. ret (after_part st p))

  -- its content and its end tag: the state at its end
  abbrev pub held : Holder S → S → G S
  held h st = loop (held_part h) st

-- ---- where no element may stand

-- (`settle 3` and a judgement of 5 are never done, so that the `bad` behind each is never taken.)
-- by the byte behind a `<`: 'a comment inside a value element, an Array or a text-only element is 3', and so is `<?`; an element is 5 once its name has ended
abbrev pub forbidden : {A : Type 0} → ℕ → G A
forbidden b =
    cond (eqb b exclamation) (settle Refusal.form_not_carried comment >> bad Refusal.form_not_carried)
    (cond (eqb b question) (bad Refusal.form_not_carried) (judge (λ w. Refusal.wrong_element) open_name >> bad Refusal.wrong_element))

-- at the `<` behind text or numbers: the end tag of this name (`missing` is the fault of what lacks before it, 0 is none), or what may not stand there
unfoldable pub only_end : List ℕ → ℕ → G (Unit {0})
only_end w missing = look_two (λ a b. cond (eqb b slash) (end_tag w missing) (forbidden b))

-- ---- text alone

-- the content of a text-only element of this name, and its end tag: text is passed over
unfoldable pub text_content : List ℕ → G (Unit {0})
text_content w = text_to less_than >> only_end w 0

-- a text-only element after its name
unfoldable pub text_element : List ℕ → G (Unit {0})
text_element w = seq (start_tag plain) (λ (tag : Tag). cond tag.empty (ret tt) (text_content w))

-- ---- Info: 'elements holding elements may nest to depth 16 below it, with any names, text and comments'

-- at a `<` inside it: its end tag, a comment, or an element
abbrev pub info_markup : G (Unit {0}) → List ℕ → ℕ → ℕ → G (Turn (Unit {0}) (Unit {0}))
info_markup element w a b =
    cond (eqb b slash) (end_tag w 0 >> ret (last tt))
    (cond (eqb b exclamation) (comment >> ret (again tt))
    (cond (eqb b question) (bad Refusal.form_not_carried) (element >> ret (again tt))))

abbrev pub info_byte : G (Unit {0}) → List ℕ → ℕ → G (Turn (Unit {0}) (Unit {0}))
info_byte element w b =
    cond (eqb b less_than) (look_two (info_markup element w))
    (cond (eqb b ampersand) (entity >> ret (again tt)) (eat >> ret (again tt)))

-- the content of an element of this name, whose children are such elements, and its end tag
abbrev pub info_content : G (Unit {0}) → List ℕ → G (Unit {0})
info_content element w = loop (λ (st : Unit {0}). look (info_byte element w)) tt

abbrev pub info_rest : G (Unit {0}) → List ℕ → Tag → G (Unit {0})
info_rest element w tag = cond tag.empty (ret tt) (info_content element w)

-- an element below which n levels may nest: 'any element at depth 17, empty or not, is 3', at its `<` once its name has ended
unfoldable pub info_element : ℕ → G (Unit {0})
info_element zero = judge (λ w. Refusal.form_not_carried) open_name >> ret tt
info_element (suc n) = do
  w ← open_name
  tag ← start_tag plain
  info_rest (info_element n) w tag

-- 'elements holding elements may nest to depth 16'
abbrev pub deepest : ℕ
deepest = 16

-- Info after its name: 'Info's children are at depth 1'
unfoldable pub info : G (Unit {0})
info = seq (start_tag plain) (info_rest (info_element deepest) (bytes "Info"))
