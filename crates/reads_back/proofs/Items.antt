-- The content of ProcessList: its nodes, an LF behind each, and its end tag. Assumes nothing.
use mathlib.Core.Path.{◌≡◌, refl, ap, ◌∙◌}
use mathlib.Core.Bool.{Bool, true, cond}
use mathlib.Core.List.{List, [], ◌∷◌, ◌++◌, append_assoc}
use Prim.Native.Nat.{ℕ, ◌<◌}
use native.Mathlib.Omega.{arith}
use lib.ListN.{length}
use borrow.Author.Tests.{lt-ltb}
use Rattle.process_list.specs.List.{Element}
use Rattle.valid.specs.Valid.{every, sound}
use Rattle.valid.proofs.Readings.{every-cons}
use Rattle.grammar.specs.Parse.{Out, done, cut, Parser, Turn, again, last, before, then_out, ret_p, kept_out, strict_out, loop_p}
use Rattle.grammar.specs.Laws.{loop-again, loop-last}
use Rattle.grammar.specs.Grammar.{added, one_item, items}
use Rattle.xml.specs.Bytes.{bytes, is_letter, is_digit, is_name_byte}
use Rattle.xml.specs.Xml.{end_tag}
use Rattle.xml.specs.Elements.{Part, misc, child, close}
use Rattle.clf.specs.List.{Child, node, Flags, no_flags, child_fault, child_body, list_item, next_flags}
use Rattle.clf.specs.Reading.{nodes_among}
use Rattle.written_form.proofs.Tail.{node_text, nodes_text}
use Rattle.reads_back.proofs.Texts.{is_name}
use Rattle.reads_back.proofs.Held.{between-line, between-end}
use Rattle.reads_back.proofs.Nodes.{node-reads, node-shorter}

-- an item with its bytes
abbrev pub Item : Type 0
Item = Part Child × List ℕ

abbrev turn : Flags × List Item → Parser (Turn (Flags × List Item) (List Item))
turn v = (one_item list_item next_flags v).run

-- the items from here on, after those of a list
unfoldable pub items_from : Flags → List Item → Parser (List Item)
items_from st l = loop_p turn (st, l)

pub items-from : (s : List ℕ) → (items list_item next_flags no_flags).run s ≡ items_from no_flags [] s
unfolding items_from
items-from s = refl

module _ (st : Flags) (l : List Item) (s : List ℕ) (p : Part Child) (r : List ℕ) (e : (list_item st).run s ≡ done p r) (h : length r < length s) where
  one-item : turn (st, l) s ≡ done (added l (p, before s r) (next_flags st p)) r
  one-item =
      ap (λ (o : Out (Part Child)). then_out (strict_out (kept_out o s) s) (λ x. ret_p (added l x (next_flags st x.0)))) e
      ∙ ap (λ (b : Bool). then_out (cond b (done (p, before s r) r) cut) (λ x. ret_p (added l x (next_flags st x.0)))) (lt-ltb (length r) (length s) h)

  item-again : (st' : Flags) → next_flags st p ≡ again st' → items_from st l s ≡ items_from st' (l ++ (p, before s r) ∷ []) r
  unfolding items_from
  item-again st' q =
      loop-again turn (st, l) s (st', l ++ (p, before s r) ∷ []) r (one-item ∙ ap (λ (t : Turn Flags (Unit {0})). done (added l (p, before s r) t) r) q) h

  item-last : next_flags st p ≡ last tt → items_from st l s ≡ done (l ++ (p, before s r) ∷ []) r
  unfolding items_from
  item-last q =
      loop-last turn (st, l) s (l ++ (p, before s r) ∷ []) r (one-item ∙ ap (λ (t : Turn Flags (Unit {0})). done (added l (p, before s r) t) r) q)

-- ---- the items of the written form

pub line_reads : (st : Flags) (t : List ℕ) → (list_item st).run (10 ∷ t) ≡ done misc t
unfolding list_item
line_reads st t = between-line (end_tag (bytes "ProcessList") 0) (child_fault st) child_body t

pub list-name : is_name (bytes "ProcessList") ≡ true
unfolding is_name is_name_byte is_letter is_digit every
list-name = refl

close-reads : (st : Flags) (t : List ℕ) → (list_item st).run (bytes "</ProcessList>" ++ t) ≡ done close t
unfolding list_item
close-reads st t = between-end (bytes "ProcessList") 0 (child_fault st) child_body t list-name refl

pub line-item : (st : Flags) (l : List Item) (t : List ℕ) → items_from st l (10 ∷ t) ≡ items_from st (l ++ (misc, before (10 ∷ t) t) ∷ []) t
line-item st l t = item-again st l (10 ∷ t) misc t (line_reads st t) (omega arith) st refl

-- the items that nodes are read as, after those of a list
pub record Read (st : Flags) (l : List Item) (s t : List ℕ) (ns : List Element) : Type 0 where
  pub parts : List Item
  pub reads : items_from st l s ≡ done (l ++ parts) t
  pub nodes : nodes_among parts ≡ ns

pub nodes-read : (st : Flags) (l : List Item) (es : List Element) (t : List ℕ) → every sound es ≡ true → Read st l (nodes_text es (bytes "</ProcessList>" ++ t)) t es
unfolding nodes_text nodes_among
nodes-read st l [] t h =
    let s : List ℕ = bytes "</ProcessList>" ++ t in
    record { parts = (close, before s t) ∷ []; reads = item-last st l s close t (close-reads st t) (omega arith) refl; nodes = refl }
nodes-read st l (e ∷ es) t h =
    let p = every-cons sound e es h in
    let r : List ℕ = nodes_text es (bytes "</ProcessList>" ++ t) in
    let x : Item = (child (node e), before (node_text e r) (10 ∷ r)) in
    let y : Item = (misc, before (10 ∷ r) r) in
    let i : Read st ((l ++ x ∷ []) ++ y ∷ []) r t es = nodes-read st ((l ++ x ∷ []) ++ y ∷ []) es t p.1 in
    record {
      parts = x ∷ y ∷ i.parts;
      reads = item-again st l (node_text e r) (child (node e)) (10 ∷ r) (node-reads st e r p.0) (node-shorter e r p.0) st refl
          ∙ line-item st (l ++ x ∷ []) r
          ∙ i.reads
          ∙ ap (λ (m : List Item). done m t) (append_assoc (l ++ x ∷ []) (y ∷ []) i.parts ∙ append_assoc l (x ∷ []) (y ∷ i.parts));
      nodes = ap (λ (m : List Element). e ∷ m) i.nodes;
    }
