-- A LIST WRITTEN OUT READS BACK AS THAT LIST; and refusal 16 is given exactly where no file's accepted reading leaves list and room. Assumes nothing.
use mathlib.Core.Path.{◌≡◌, refl, sym, ap, ◌∙◌, subst}
use mathlib.Core.Bool.{Bool, true, false, cond}
use mathlib.Core.List.{List, [], ◌∷◌, map}
use Prim.Native.Nat.{ℕ, ◌≤◌}
use native.Mathlib.Omega.{arith}
use lib.Dec.{ltb}
use lib.ListN.{length}
use borrow.Author.Tests.{le-ltb}
use Rattle.std.proofs.Common.{Ok}
use Rattle.process_list.specs.List.{Element, node_of, all_numbers, placed, verdict}
use Rattle.process_list.specs.File.{file_list}
use Rattle.process_list.proofs.Lists.{list_length, heads-length, fine-accepted}
use Rattle.room.specs.Room.{filled_with}
use Rattle.room.proofs.Rooms.{filled-room, filled-equal, filled-beyond}
use Rattle.valid.specs.Valid.{every, sound, is_valid}
use Rattle.valid.proofs.Readings.{all-length, parts, valid-file}
use Rattle.valid.proofs.Readings as Readings
use Rattle.grammar.specs.Parse.{Out, done, before, then_out, ret_p, kept_out, loop_p}
use Rattle.grammar.specs.Laws.{nope}
use Rattle.xml.specs.Bytes.{bytes, is_space, is_letter}
use Rattle.xml.specs.Xml.{Tag}
use Rattle.xml.specs.Elements.{misc, between}
use Rattle.clf.specs.List.{no_flags, Document, list_content, document, tail}
use Rattle.clf.specs.Reading.{accepted, faulty, unfit, most_bytes, nodes_among, nodes_in, reading_by, list_reading, tail_reading, text_reading, read_text, read}
use Rattle.clf.specs.Reading as Reading
use Rattle.look.specs.Look.{Look, room_length_of, as_read, holding}
use Rattle.claims.specs.LookRuns.{read_into}
use Rattle.claims.proofs.Unique.{repeat-none}
use Rattle.claims.proofs.Rules.{WholeElements, whole-rules, accepted-rules, read_short, text-elements}
use Rattle.claims.proofs.Look.{fresh_nodes, shows-fresh, shown-valid}
use Rattle.written_form.specs.Written.{joined, list_lines, most_id_bytes, refused, written, fitting, write_of}
use Rattle.ids.specs.Ids.{is_id_byte, all_id_bytes, id_right}
use Rattle.written_form.proofs.Tail.{nodes_text, head_text, list_text, list-text}
use Rattle.written_form.proofs.Short.{elements-short}
use Rattle.claims.specs.Rules.{Allowed}
use Rattle.reads_back.specs.Back.{ReadAs, HasPlaces, Valid, elements_held, writing, EqualRoom, ReadingLeaves, ReadingLeavesIn, WrittenReadsBack, WrittenReadsIn, Refusal16, ExactlyAllowed}
use Rattle.reads_back.proofs.Items.{Item, items-from, line-item, Read, nodes-read}
use Rattle.reads_back.proofs.Heads.{root_attributes, head-reads}

-- ---- the document of a written list

record Documented (id : List ℕ) (es : List Element) : Type 0 where
  start : List ℕ
  items : List Item
  reads : document.run (list_text id es) ≡ done (record { start = start; parts = items }) (10 ∷ [])
  nodes : nodes_among items ≡ es

document-reads : (id : List ℕ) (es : List Element) → id_right most_id_bytes id ≡ true → every sound es ≡ true → Documented id es
unfolding list_text head_text document nodes_among
document-reads id es k h =
    let s : List ℕ = list_text id es in
    let n : List ℕ = nodes_text es (bytes "</ProcessList>\n") in
    let g : Item = (misc, before (10 ∷ n) n) in
    let tag : Tag = record { attributes = root_attributes id; empty = false } in
    let i : Read no_flags (g ∷ []) n (10 ∷ []) es = nodes-read no_flags (g ∷ []) es (10 ∷ []) h in
    record {
      start = before s (10 ∷ n);
      items = g ∷ i.parts;
      reads = ap (λ (o : Out Tag). then_out (kept_out o s) (λ x r. then_out ((list_content x.0).run r) (λ l. ret_p (record { start = x.1; parts = l })))) (head-reads most_id_bytes id k (10 ∷ n))
          ∙ ap (λ (o : Out (List Item)). then_out o (λ l. ret_p (record { start = before s (10 ∷ n); parts = l }))) (items-from (10 ∷ n) ∙ line-item no_flags [] n ∙ i.reads);
      nodes = i.nodes;
    }

tail-reads : tail (10 ∷ []) ≡ done tt []
unfolding tail loop_p between is_space
tail-reads = refl

-- ---- reading it

allowed-verdict : (room : ℕ) (es : List Element) → Allowed room es → verdict room es ≡ Ok tt
unfolding verdict
allowed-verdict room es a =
    fine-accepted room (map node_of es) (record {
      some = omega (arith, a.some, heads-length es);
      few = omega (arith, a.few, heads-length es);
      chained = a.chained;
      apart = repeat-none es a.nodes a.unique;
      holds = omega (arith, a.holds, all-length es a.nodes);
    })

list-accepted : (room : ℕ) (es : List Element) → verdict room es ≡ Ok tt → list_reading room es ≡ accepted es
unfolding list_reading
list-accepted room es v = ap (reading_by es) v

text-accepted : (room : ℕ) (id : List ℕ) (es : List Element) → id_right most_id_bytes id ≡ true → every sound es ≡ true → verdict room es ≡ Ok tt
    → read_text room (joined (list_lines id es)) ≡ accepted es
unfolding read_text
text-accepted room id es k h v =
    let s : List ℕ = list_text id es in
    let d : Documented id es = document-reads id es k h in
    let x : Document = record { start = d.start; parts = d.items } in
    ap (read_text room) (sym (list-text id es))
    ∙ ap (text_reading room s) d.reads
    ∙ ap (tail_reading room s x) tail-reads
    ∙ ap (list_reading room) d.nodes
    ∙ list-accepted room es v

-- at most 16 MiB: '4 first'
text-small : (room : ℕ) (id : List ℕ) (es : List Element) → id_right most_id_bytes id ≡ true → Allowed room es → length (joined (list_lines id es)) ≤ most_bytes
text-small room id es i a = elements-short id es i a.nodes a.few (omega (arith, a.holds))

-- over the elements: 'a list written out reads back as that list'
pub list-reads-back : (room : ℕ) (id : List ℕ) (es : List Element) → id_right most_id_bytes id ≡ true → Allowed room es → ReadAs room (joined (list_lines id es)) es
unfolding read
list-reads-back room id es i a =
    ap (λ (v : Bool). cond v (faulty 4 0) (read_text room (joined (list_lines id es)))) (le-ltb most_bytes (length (joined (list_lines id es))) (text-small room id es i a))
    ∙ text-accepted room id es i a.nodes (allowed-verdict room es a)

-- ---- which lists are read

-- what is accepted keeps the rules
accepted-whole : (room : ℕ) (file : List ℕ) (l : List Element) → read room file ≡ accepted l → WholeElements room l
accepted-whole room file l e = text-elements room file l (read_short room file l e).text

plain-id : id_right most_id_bytes (bytes "a") ≡ true
unfolding id_right all_id_bytes is_id_byte is_letter
plain-id = refl

-- a list is the list of some accepted file exactly if it keeps the rules (1 to 32 nodes, 10, 23, 13, and each node's own)
pub exactly-allowed : (room : ℕ) (es : List Element) → ExactlyAllowed room es
exactly-allowed room es = (λ a. (joined (list_lines (bytes "a") es), list-reads-back room (bytes "a") es plain-id a), λ f. back f.0 f.1)
  where
    back : (file : List ℕ) → ReadAs room file es → Allowed room es
    back file r = accepted-rules room file es r

-- ---- list and room

module _ (x : Look) (p : HasPlaces x) (v : Valid x) where
  -- what a valid list and room are: the reading of their elements
  reading : Readings.Reading x.list x.room (elements_held x)
  reading = parts x.list x.room p v

  held-allowed : Allowed (room_length_of x) (elements_held x)
  held-allowed = whole-rules (room_length_of x) (elements_held x) (record { sounds = reading.sounds; fits = reading.accepted })

  holding-self : holding x (elements_held x) ≡ as_read x
  unfolding holding
  holding-self = λ i. record { list = sym reading.list i; room = sym reading.room i }

  -- in a room that holds the numbers
  module _ (y : Look) (h : length (all_numbers (elements_held x)) ≤ room_length_of y) where
    allowed-in : Allowed (room_length_of y) (elements_held x)
    allowed-in = let a = held-allowed in record { some = a.some; few = a.few; chained = a.chained; unique = a.unique; holds = omega (arith, a.holds); nodes = a.nodes }

    holding-in : ((holding y (elements_held x)).list ≡ file_list x.list) × ((holding y (elements_held x)).room ≡ filled_with (all_numbers (elements_held x)) y.room)
    unfolding holding
    holding-in = (sym reading.list, refl)

    pub valid-reads-in : (id : List ℕ) → id_right most_id_bytes id ≡ true → ReadingLeavesIn y (joined (list_lines id (elements_held x))) x
    valid-reads-in id i =
        let r : ReadAs (room_length_of y) (joined (list_lines id (elements_held x))) (elements_held x) = list-reads-back (room_length_of y) id (elements_held x) i allowed-in in
        let q : read_into y (joined (list_lines id (elements_held x))) ≡ holding y (elements_held x) = ap (λ (z : Reading.Reading). holding y (nodes_in z)) r in
        record {
          nodes = elements_held x;
          accepted = r;
          list = ap (λ (z : Look). z.list) q ∙ holding-in.0;
          room = ap (λ (z : Look). z.room) q ∙ holding-in.1;
        }

  -- what the room held before does not matter
  module _ (y : Look) (e : EqualRoom x y) where
    holding-equal : (es : List Element) → holding y es ≡ holding x es
    unfolding holding
    holding-equal es = rw (filled-equal (all_numbers es) x.room y.room e.room e.behind) refl

    -- the text of a valid list and room, under any right id
    pub valid-reads-back : (id : List ℕ) → id_right most_id_bytes id ≡ true → ReadingLeaves y (joined (list_lines id (elements_held x))) x
    valid-reads-back id i =
        let r : ReadAs (room_length_of x) (joined (list_lines id (elements_held x))) (elements_held x) = list-reads-back (room_length_of x) id (elements_held x) i held-allowed in
        let q : read (room_length_of y) (joined (list_lines id (elements_held x))) ≡ accepted (elements_held x) = ap (λ (n : ℕ). read n (joined (list_lines id (elements_held x)))) e.room ∙ r in
        record {
          nodes = elements_held x;
          accepted = q;
          look = ap (λ (z : Reading.Reading). holding y (nodes_in z)) q ∙ holding-equal (elements_held x) ∙ holding-self;
        }

-- what writing answered: list and room are valid, the id is right, and the text is theirs
record Wrote (x : Look) (id text : List ℕ) : Type 0 where
  valid : Valid x
  right : id_right most_id_bytes id ≡ true
  is : joined (list_lines id (elements_held x)) ≡ text

wrote : (x : Look) (id : List ℕ) (out : ℕ) (text : List ℕ) → writing x id out ≡ written text → Wrote x id text
unfolding write_of fitting
wrote x id out text e = go (is_valid x.list x.room) (id_right most_id_bytes id) (ltb out (length (joined (list_lines id (elements_held x))))) refl refl e
  where
    go : (a b c : Bool) → is_valid x.list x.room ≡ a → id_right most_id_bytes id ≡ b
        → cond a (cond b (cond c (refused 17) (written (joined (list_lines id (elements_held x))))) (refused 18)) (refused 16) ≡ written text → Wrote x id text
    go true true true q r z = nope cc
    go true true false q r z = record { valid = q; right = r; is = cc }
    go true false c q r z = nope cc
    go false b c q r z = nope cc

-- DEMAND 2: 'a list written out reads back as that list'
pub written-reads-back : (x : Look) → HasPlaces x → WrittenReadsBack x
written-reads-back x p id out text e y room =
    let w : Wrote x id text = wrote x id out text e in
    subst (λ (t : List ℕ). ReadingLeaves y t x) w.is (valid-reads-back x p w.valid y room id w.right)

-- and in every room that holds the numbers
pub written-reads-in : (x : Look) → HasPlaces x → WrittenReadsIn x
written-reads-in x p id out text e y h =
    let w : Wrote x id text = wrote x id out text e in
    subst (λ (t : List ℕ). ReadingLeavesIn y t x) w.is (valid-reads-in x p w.valid y h id w.right)

-- ---- refusal 16

-- what an accepted reading leaves, whatever list and room held before, is valid; and with it every list and room of which a file says the same, since 16 ignores the kept numbers
pub left-valid : (y : Look) (file : List ℕ) (x : Look) → ReadingLeaves y file x → Valid x
left-valid y file x l =
    let es : List Element = l.nodes in
    let w : WholeElements (room_length_of y) es = accepted-whole (room_length_of y) file l.nodes l.accepted in
    let q : holding y es ≡ as_read x = ap (λ (z : Reading.Reading). holding y (nodes_in z)) (sym l.accepted) ∙ l.look in
    sym (valid-file x.list x.room) ∙ subst Valid q (shown-valid y (fresh_nodes es) w (holding y es) (shows-fresh y es))

itself : (x : Look) → EqualRoom x x
itself x = record { room = refl; behind = refl }

-- REFUSAL 16: 'list and room are no accepted reading of any file into that room'
pub refusal-16 : (x : Look) → HasPlaces x → Refusal16 x
refusal-16 x p = (λ v. (joined (list_lines (bytes "a") (elements_held x)), valid-reads-back x p v x (itself x) (bytes "a") plain-id), λ f. left-valid x f.0 x f.1)

-- ---- which lists have 32 places, and which rooms are equal

-- every list that a reading leaves, a refused one too
pub read-places : (y : Look) (file : List ℕ) → HasPlaces (read_into y file)
unfolding holding
read-places y file = list_length (placed (nodes_in (read (room_length_of y) file)))

-- and its room is equal to the one that was lent
read-few : (room : ℕ) (file : List ℕ) → length (all_numbers (nodes_in (read room file))) ≤ room
unfolding all_numbers
read-few room file = go (read room file) refl
  where
    go : (r : Reading.Reading) → read room file ≡ r → length (all_numbers (nodes_in r)) ≤ room
    go (accepted l) e =
        let a : Allowed room l = accepted-rules room file l e in
        omega (arith, a.holds)
    go (faulty k p) e = omega arith
    go (unfit k p) e = omega arith

pub holding-room : (y : Look) (es : List Element) → length (all_numbers es) ≤ room_length_of y → EqualRoom (holding y es) y
unfolding holding
holding-room y es h = record { room = sym (filled-room (all_numbers es) y.room h); behind = sym (filled-beyond (all_numbers es) y.room h) }

-- so: read any file, write the list out under any id, read that text into the same room: list and room are the same
pub read-written-read : (y : Look) (file id : List ℕ) (out : ℕ) (text : List ℕ) → writing (read_into y file) id out ≡ written text → ReadingLeaves y text (read_into y file)
read-written-read y file id out text e =
    written-reads-back (read_into y file) (read-places y file) id out text e y
    (holding-room y (nodes_in (read (room_length_of y) file)) (read-few (room_length_of y) file))
