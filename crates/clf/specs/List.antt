-- ProcessList, and what may stand around it (document 01, The file we carry).
use Rattle.process_list.specs.List.{Element}
use Rattle.std.specs.Prelude.{Bool, true, false, cond, ◌&&◌, List, [], ◌∷◌, ℕ, eqb, length}
use Rattle.grammar.specs.Parse.{Out, done, Parser, Turn, again, last, then_out, loop_p}
use Rattle.grammar.specs.Grammar.{G, ret, bad, kept, blame, seq, loop, items, ◌>>=◌, ◌>>◌}
use Rattle.xml.specs.Bytes.{bytes, same}
use Rattle.xml.specs.Xml.{word, Attribute, is_named, Rules, Tag, start_tag, end_tag, stray_end}
use Rattle.xml.specs.Elements.{Part, misc, child, close, between, text_element, info}
use Rattle.clf.specs.Nodes.{node_name, node_fault, node_body}
use Rattle.refusals.specs.Refusals as Refusal

-- 'It starts at byte 0 with the 38 bytes'; 'another start is 3 at 0, a start cut short is 1'
abbrev pub declaration : List ℕ
declaration = bytes "<?xml version=\"1.0\" encoding=\"UTF-8\"?>"

-- ---- the children of ProcessList

pub data Child : Type 0 where
  node : Element → Child
  description : Child
  input_descriptor : Child
  output_descriptor : Child
  info_child : Child

-- which of those that may not repeat have been there
pub record Flags : Type 0 where
  pub input : Bool
  pub output : Bool
  pub info : Bool

abbrev pub no_flags : Flags
no_flags = record { input = false; output = false; info = false }

-- 'Children in any order: Description, InputDescriptor, OutputDescriptor (text only), Info, nodes; only Description and nodes may repeat'
unfoldable pub child_fault : Flags → List ℕ → ℕ
child_fault st w =
    cond (same w (bytes "Description")) 0
    (cond (same w (bytes "InputDescriptor")) (cond st.input Refusal.wrong_element 0)
    (cond (same w (bytes "OutputDescriptor")) (cond st.output Refusal.wrong_element 0)
    (cond (same w (bytes "Info")) (cond st.info Refusal.wrong_element 0)
    (node_fault (node_name w)))))

unfoldable pub child_body : List ℕ → G Child
child_body w =
    cond (same w (bytes "Description")) (text_element w >> ret description)
    (cond (same w (bytes "InputDescriptor")) (text_element w >> ret input_descriptor)
    (cond (same w (bytes "OutputDescriptor")) (text_element w >> ret output_descriptor)
    (cond (same w (bytes "Info")) (info >> ret info_child)
    (seq (node_body (node_name w)) (λ n. ret (node n))))))

-- an item of ProcessList: a byte of white space, a comment, a child, or the end tag
unfoldable pub list_item : Flags → G (Part Child)
list_item st = between (end_tag (bytes "ProcessList") 0) (child_fault st) child_body

abbrev pub next_flags : Flags → Part Child → Turn Flags (Unit {0})
next_flags st misc = again st
next_flags st (child (node n)) = again st
next_flags st (child description) = again st
next_flags st (child input_descriptor) = again (record { input = true; output = st.output; info = st.info })
next_flags st (child output_descriptor) = again (record { input = st.input; output = true; info = st.info })
next_flags st (child info_child) = again (record { input = st.input; output = st.output; info = true })
next_flags st close = last tt

-- ---- ProcessList

-- '`id` (not empty), `compCLFversion` "3.0"': another version is 6
abbrev pub list_texts : List ℕ → List ℕ → ℕ
list_texts w t =
    cond (same w (bytes "id")) (cond (eqb (length t) 0) Refusal.wrong_attribute 0)
    (cond (same w (bytes "compCLFversion")) (cond (same t (bytes "3.0")) 0 Refusal.wrong_version) 0)

-- one of the two that is missing is 8
abbrev pub list_missing : List Attribute → ℕ
list_missing l = cond (is_named (bytes "id") l && is_named (bytes "compCLFversion") l) 0 Refusal.wrong_attribute

abbrev pub list_rules : Rules
list_rules = record { names = λ w. 0; texts = list_texts; opened = list_missing; emptied = list_missing }

-- 'a root of another name' is 5
abbrev pub root_fault : List ℕ → ℕ
root_fault w = cond (same w (bytes "ProcessList")) 0 Refusal.wrong_element

-- an end tag is 2 for `stray_end`, so that `close` is never taken
abbrev pub to_root : Part (List ℕ) → Turn (Unit {0}) (Unit {0})
to_root misc = again tt
to_root (child w) = last tt
to_root close = again tt

-- white space and comments, to the root's `<ProcessList`
unfoldable pub prologue : G (Unit {0})
prologue = loop (λ (st : Unit {0}). seq (between stray_end root_fault (λ w. ret w)) (λ p. ret (to_root p))) tt

-- all up to the end of the root's start tag
unfoldable pub head : G Tag
head = blame (word declaration Refusal.form_not_carried) >> prologue >> start_tag list_rules

-- a file's parts: the bytes up to the end of the root's start tag, and the items of ProcessList, each with its bytes
pub record Document : Type 0 where
  pub start : List ℕ
  pub parts : List (Part Child × List ℕ)

-- '`<X/>` equals `<X></X>`'
abbrev pub list_content : Tag → G (List (Part Child × List ℕ))
list_content tag = cond tag.empty (ret []) (items list_item next_flags no_flags)

unfoldable pub document : G Document
document = do
  h ← kept head
  l ← list_content h.0
  ret (record { start = h.1; parts = l })

-- ---- behind the root: 'a second root' is 5 at its `<` (so that its body, `bad`, is never taken); here the bytes may end

abbrev pub onward : Out (Part (Unit {0})) → Out (Turn (Unit {0}) (Unit {0}))
onward o = then_out o (λ p r. done (again tt) r)

abbrev pub tail_part : Parser (Turn (Unit {0}) (Unit {0}))
tail_part [] = done (last tt) []
tail_part (b ∷ s) = onward ((between stray_end (λ w. Refusal.wrong_element) (λ w. bad {A = Unit {0}} Refusal.wrong_element)).run (b ∷ s))

unfoldable pub tail : Parser (Unit {0})
tail = loop_p (λ (st : Unit {0}). tail_part) tt
