-- From what the functions ensure to what is promised of them: reading back, and refusal 16 both ways. Assumes nothing.
use mathlib.Core.Path.{◌≡◌, refl, sym, ap, subst, ◌∙◌}
use Rattle.std.specs.Prelude.{Ok, Err}
use mathlib.Core.Bool.{Bool, true, false, cond, not}
use mathlib.Core.List.{List, [], ◌∷◌, map}
use Prim.Native.Nat.{ℕ, ◌-◌, ◌≤◌}
use native.Mathlib.Omega.{arith}
use borrow.Author.Tests.{ltb-false, le-leb}
use lib.Dec.{eqb, ltb}
use lib.Ieee.{Float}
use lib.ListN.{length, take, drop}
use lib.Seq.{take_at}
use Rattle.grammar.specs.Laws.{nope}
use Rattle.process_list.specs.declared.ProcessList.{ProcessList}
use Rattle.process_list.specs.declared.Node.{Node}
use Rattle.process_list.specs.File.{file_node, file_list, keeping}
use Rattle.process_list.specs.List.{Element, list_of, placed, nodes_of, most_numbers}
use Rattle.process_list.proofs.Files.{file-nodes, file-keeping}
use Rattle.room.specs.Room.{Room, room_length}
use Rattle.ids.specs.Ids.{id_right}
use Rattle.valid.specs.Valid.{is_valid, elements_of}
use Rattle.valid.proofs.Readings.{valid-file, elements-file}
use Rattle.tags.specs.Code.{part_in}
use Rattle.clf.specs.Description.{bytes_of, part_asked, description_part}
use Rattle.clf.specs.Reading.{Reading, nodes_in, accepted, faulty, unfit, reading_number, reading_place, read_alone, is_numbered, asked_for, description_asked, read}
use Rattle.reading.specs.Code.{Answer, Checked, number_of, place_of, checked_of, ReadsInto}
use Rattle.reading.specs.Code as Reads
use Rattle.look.specs.Look.{Look, as_read, holding, kept_of, call_in}
use Rattle.look.specs.Replacing.{Call, call}
use Rattle.look.specs.Replacing as Replacing
use Rattle.replacing.specs.Code.{Outcome, look_of, Replaced}
use Rattle.replacing.specs.Code as Replaces
use Rattle.claims.specs.Refusals.{ToldApart}
use Rattle.claims.proofs.Blamed.{elsewhere}
use Rattle.claims.proofs.Calls.{is_call_fault, call-number}
use Rattle.claims.proofs.Told.{told-reading, told-call}
use Rattle.pixel_run.specs.Finite.{first_not_finite}
use Rattle.running.specs.declared.RunFault.TheVariants as Fault
use Rattle.running.specs.Running.{Ran, ran_number, prepared_of, rows_of, run_node, run_nodes, not_threes, not_finite, ran_of, pixels_of}
use Rattle.written_form.specs.Written.{joined, list_lines, most_id_bytes, Writing, refused, written, fitting, write_of, output_of}
use Rattle.written_form.specs.Written as Text
use Rattle.writing.specs.Writing.{Written, written_number, written_length, writing_answer}
use Rattle.writing.specs.WritingLaws.{answer-number, answer-length}
use Rattle.reads_back.specs.Back.{HasPlaces, SomeReading, ReadingLeaves, ReadingLeavesIn, writing}
use Rattle.reads_back.specs.Calls.{ReadBack, ReadIn, WroteAndRead, IsReading, Refuses16, WriteRefuses, RunRefuses, ReplaceRefuses, CheckedAndRead, Describes}
use Rattle.reads_back.proofs.Back.{written-reads-back, written-reads-in, refusal-16}

-- ---- reading back

-- what writing answered with the number 0
record Zero (w : Writing) : Type 0 where
  text : List ℕ
  is : w ≡ written text

-- the refusals of writing are 16, 18 and 17
zero-written : (x : Look) (id : List ℕ) (n : ℕ) → Text.writing_number (writing x id n) ≡ 0 → Zero (writing x id n)
unfolding write_of fitting
zero-written x id n z = go (is_valid x.list x.room) (id_right most_id_bytes id) (ltb n (length (joined (list_lines id (elements_of x.list x.room))))) z
  where
    text : List ℕ
    text = joined (list_lines id (elements_of x.list x.room))

    go : (a b c : Bool) → Text.writing_number (cond a (cond b (cond c (refused 17) (written text)) (refused 18)) (refused 16)) ≡ 0
        → Zero (cond a (cond b (cond c (refused 17) (written text)) (refused 18)) (refused 16))
    go true true true z = absurd (omega arith)
    go true true false z = record { text = text; is = refl }
    go true false c z = absurd (omega arith)
    go false b c z = absurd (omega arith)

text-front : (w : Writing) (text out : List ℕ) → w ≡ written text → take (Text.writing_length w) (output_of w out) ≡ text
text-front w text out e =
    subst (λ (v : Writing). take (Text.writing_length v) (output_of v out) ≡ text) (sym e) (take_at text (drop (length text) out) (length text) refl)

-- the answer of an accepted reading is the list that it leaves
lists : (y : Look) (d : Reading) (es : List Element) (l : ProcessList) (r : Answer) → d ≡ accepted es → r ≡ Reads.reading_answer d → (holding y (nodes_in d)).list ≡ l → r ≡ Ok l
unfolding Reads.reading_answer holding
lists y d es l r a e q =
    let k : (holding y (nodes_in d)).list ≡ list_of (placed es) = ap (λ (z : Reading). (holding y (nodes_in z)).list) a in
    e ∙ ap Reads.reading_answer a ∙ ap Ok (sym k ∙ q)

reads-text : (x : Look) (m₀ m₁ : Room) (text : List ℕ) (r : Answer) → ReadingLeaves (look_of x.list m₀) text x → ReadsInto (read (room_length m₀) text) r m₀ m₁ → ReadBack x r m₁
unfolding Reads.reading_answer holding
reads-text x m₀ m₁ text r l h =
    record {
      answer = lists (look_of x.list m₀) (read (room_length m₀) text) l.nodes (file_list x.list) r l.accepted h.answer (ap (λ (z : Look). z.list) l.look);
      room = h.room ∙ ap (λ (z : Look). z.room) l.look;
    }

-- the same in a room that holds the numbers
reads-text-in : (x : Look) (m₀ m₁ : Room) (text : List ℕ) (r : Answer) → ReadingLeavesIn (look_of x.list m₀) text x → ReadsInto (read (room_length m₀) text) r m₀ m₁ → ReadIn x r m₀ m₁
unfolding Reads.reading_answer holding
reads-text-in x m₀ m₁ text r l h =
    record {
      answer = lists (look_of x.list m₀) (read (room_length m₀) text) l.nodes (file_list x.list) r l.accepted h.answer l.list;
      room = h.room ∙ l.room;
    }

pub wrote-read : (x : Look) → HasPlaces x → (id : List ℕ) (w : Written) (r : Answer) (out₀ out₁ : List ℕ) (m₀ m₁ : Room) → w ≡ writing_answer (writing x id (length out₀))
    → out₁ ≡ output_of (writing x id (length out₀)) out₀
    → ReadsInto (read (room_length m₀) (take (written_length w) out₁)) r m₀ m₁ → WroteAndRead x id (record { wrote = w; answer = r }) out₀ out₁ m₀ m₁
wrote-read x p id w r out₀ out₁ m₀ m₁ e o h =
    record {
      wrote = e;
      output = o;
      read = h;
      holds = λ z room. let k = said z in reads-text-in x m₀ m₁ k.text r (written-reads-in x p id (length out₀) k.text k.is (look_of x.list m₀) room) (from k);
      back = λ z room. let k = said z in reads-text x m₀ m₁ k.text r (written-reads-back x p id (length out₀) k.text k.is (look_of x.list m₀) room) (from k);
    }
  where
    said : written_number w ≡ 0 → Zero (writing x id (length out₀))
    said z = zero-written x id (length out₀) (sym (ap written_number e ∙ answer-number x.list x.room id (length out₀)) ∙ z)

    from : (k : Zero (writing x id (length out₀))) → ReadsInto (read (room_length m₀) k.text) r m₀ m₁
    from k =
        subst (λ (s : List ℕ). ReadsInto (read (room_length m₀) s) r m₀ m₁)
        (ap (λ (v : Written). take (written_length v) out₁) e ∙ ap (λ (n : ℕ). take n out₁) (answer-length (writing x id (length out₀))) ∙ ap (take (Text.writing_length (writing x id (length out₀)))) o ∙ text-front (writing x id (length out₀)) k.text out₀ k.is) h

-- as the code goes: the part of the output that was written is read
written-fits : (x : Look) (id : List ℕ) (n : ℕ) → Text.writing_length (writing x id n) ≤ n
unfolding write_of fitting
written-fits x id n = go (is_valid x.list x.room) (id_right most_id_bytes id) (ltb n (length text)) refl
  where
    text : List ℕ
    text = joined (list_lines id (elements_of x.list x.room))

    go : (a b c : Bool) → ltb n (length text) ≡ c → Text.writing_length (cond a (cond b (cond c (refused 17) (written text)) (refused 18)) (refused 16)) ≤ n
    go true true true e = omega arith
    go true true false e = ltb-false n (length text) e
    go true false c e = omega arith
    go false b c e = omega arith

part-front : (s : List ℕ) (n : ℕ) → n ≤ length s → part_in s 0 n ≡ take n s
unfolding part_in
part-front s n h = let z : n - 0 ≡ n = omega arith in rw (le-leb n (length s) h, z) refl

pub wrote-part-read : (x : Look) → HasPlaces x → (id : List ℕ) (w : Written) (r : Answer) (out₀ out₁ : List ℕ) (m₀ m₁ : Room) → w ≡ writing_answer (writing x id (length out₀))
    → out₁ ≡ output_of (writing x id (length out₀)) out₀
    → length out₁ ≡ length out₀ → (t : List ℕ) → t ≡ part_in out₁ 0 (written_length w) → ReadsInto (read (room_length m₀) t) r m₀ m₁ → WroteAndRead x id (record { wrote = w; answer = r }) out₀ out₁ m₀ m₁
wrote-part-read x p id w r out₀ out₁ m₀ m₁ e o l t q h =
    let n : written_length w ≡ Text.writing_length (writing x id (length out₀)) = ap written_length e ∙ answer-length (writing x id (length out₀)) in
    let k : written_length w ≤ length out₁ = omega (arith, written-fits x id (length out₀)) in
    wrote-read x p id w r out₀ out₁ m₀ m₁ e o (subst (λ (s : List ℕ). ReadsInto (read (room_length m₀) s) r m₀ m₁) (q ∙ part-front out₁ (written_length w) k) h)

-- ---- refusal 16

-- an answer that is 16 exactly where list and room are not valid
refuses : (x : Look) → HasPlaces x → (n : ℕ) → (is_valid x.list x.room ≡ true → n ≡ 16 → ⊥) → (is_valid x.list x.room ≡ false → n ≡ 16) → Refuses16 x n
refuses x p n f g = (λ e s. f ((refusal-16 x p).1 s) e, λ z. go (is_valid x.list x.room) refl z)
  where
    go : (b : Bool) → is_valid x.list x.room ≡ b → (SomeReading x → ⊥) → n ≡ 16
    go true e z = absurd (z ((refusal-16 x p).0 e))
    go false e z = g e

pub valid-both : (x : Look) → HasPlaces x → (r : Bool) → r ≡ is_valid x.list x.room → IsReading x r
valid-both x p r e = record {
  both = (λ z. (refusal-16 x p).0 (sym e ∙ z), λ s. e ∙ (refusal-16 x p).1 s);
  ignores = λ kept.
      e ∙ sym (valid-file x.list x.room) ∙ ap (λ (l : ProcessList). is_valid l x.room) (sym (file-keeping kept x.list))
      ∙ valid-file (keeping kept x.list) x.room;
}

-- what is written and what comes of pixels does not look at the kept numbers
write-unseen : (x : Look) (id : List ℕ) (n : ℕ) → writing x id n ≡ writing (as_read x) id n
unfolding write_of
write-unseen x id n = rw (valid-file x.list x.room, elements-file x.list x.room) refl

nodes-unseen : (m : Room) (ns : List Node) (xs : List Float) → run_nodes m ns xs ≡ run_nodes m (map file_node ns) xs
unfolding run_nodes run_node prepared_of rows_of
nodes-unseen m [] xs = refl
nodes-unseen m (n ∷ ns) xs = nodes-unseen m ns (run_node m n xs)

ran-unseen : (x : Look) (xs : List Float) → ran_of x.list x.room xs ≡ ran_of (as_read x).list (as_read x).room xs
unfolding ran_of
ran-unseen x xs = rw (valid-file x.list x.room) refl

run-unseen : (x : Look) (xs : List Float) → pixels_of x.list x.room xs ≡ pixels_of (as_read x).list (as_read x).room xs
unfolding pixels_of
run-unseen x xs = rw (← ran-unseen x xs, file-nodes x.list, ← nodes-unseen x.room (nodes_of x.list) xs) refl

pub write-refuses : (x : Look) → HasPlaces x → (id : List ℕ) (r : Written) (out₀ out₁ : List ℕ) → r ≡ writing_answer (writing x id (length out₀)) → out₁ ≡ output_of (writing x id (length out₀)) out₀
    → WriteRefuses x id r out₀ out₁
unfolding write_of fitting
write-refuses x p id r out₀ out₁ e o = record {
  answer = e;
  output = o;
  unseen = write-unseen x id (length out₀);
  refuses = refuses x p (written_number r)
      (λ v z. valid (is_valid x.list x.room) (id_right most_id_bytes id) (ltb (length out₀) (length text)) v (sym said ∙ z))
      (λ v. said ∙ ap (λ (b : Bool). Text.writing_number
      (cond b (cond (id_right most_id_bytes id) (cond (ltb (length out₀) (length text)) (refused 17) (written text)) (refused 18)) (refused 16))) v);
}
  where
    text : List ℕ
    text = joined (list_lines id (elements_of x.list x.room))

    said : written_number r ≡ Text.writing_number (writing x id (length out₀))
    said = ap written_number e ∙ answer-number x.list x.room id (length out₀)

    valid : (a b c : Bool) → a ≡ true → Text.writing_number (cond a (cond b (cond c (refused 17) (written text)) (refused 18)) (refused 16)) ≡ 16 → ⊥
    valid true true true v z = omega arith
    valid true true false v z = omega arith
    valid true false c v z = omega arith
    valid false b c v z = nope cc

pub run-refuses : (x : Look) → HasPlaces x → (r : Ran) (xs ys : List Float) → r ≡ ran_of x.list x.room xs → ys ≡ pixels_of x.list x.room xs → RunRefuses x r xs ys
unfolding ran_of
run-refuses x p r xs ys e o = record {
  answer = e;
  pixels = o;
  unseen = ran-unseen x xs;
  unseen_pixels = run-unseen x xs;
  refuses = refuses x p (ran_number r)
      (λ v z. valid (is_valid x.list x.room) (not_threes xs) (not_finite xs) v (sym (ap ran_number e) ∙ z))
      (λ v. ap ran_number e ∙ ap (λ (b : Bool). ran_number (cond (not b) (Err Fault.NoReading) rest)) v);
}
  where
    rest : Ran
    rest = cond (not_threes xs) (Err Fault.NotThrees) (cond (not_finite xs) (Err (Fault.NotFinite (first_not_finite xs))) (Ok tt))

    valid : (a b c : Bool) → a ≡ true → ran_number (cond (not a) (Err Fault.NoReading) (cond b (Err Fault.NotThrees) (cond c (Err (Fault.NotFinite (first_not_finite xs))) (Ok tt)))) ≡ 16 → ⊥
    valid true true c v z = omega arith
    valid true false true v z = omega arith
    valid true false false v z = omega arith
    valid false b c v z = nope cc

-- replacing by the list alone never answers 16
call-not : (room : ℕ) (kept : List ℕ) (es : List Element) (c : Call) (a : Replacing.Replacing) → call room kept es c ≡ a → Replaces.replacing_number a ≡ 16 → ⊥
call-not room kept es c (Replacing.replaced new) e z = omega arith
call-not room kept es c (Replacing.refused n p) e z = let f : false ≡ true = sym (ap is_call_fault z) ∙ call-number room kept es c n p e in nope cc

-- 9 and 25 are told apart by every call: 16 is neither
told_in : (x : Look) (c : Call) → ToldApart (Replaces.replacing_number (call_in x c)) (drop (Replaces.replacing_place (call_in x c)) c.element)
unfolding call_in
told_in x c = by-valid (is_valid x.list x.room)
  where
    a : Replacing.Replacing
    a = call (room_length x.room) (kept_of x) (elements_of x.list x.room) c

    by_call : (b : Replacing.Replacing) → a ≡ b → ToldApart (Replaces.replacing_number b) (drop (Replaces.replacing_place b) c.element)
    by_call (Replacing.replaced es) e = elsewhere (eqb 0) refl refl 0 refl (drop 0 c.element)
    by_call (Replacing.refused n p) e = told-call (room_length x.room) (kept_of x) (elements_of x.list x.room) c n p e

    by-valid : (v : Bool) → ToldApart (Replaces.replacing_number (cond v a (Replacing.refused 16 0))) (drop (Replaces.replacing_place (cond v a (Replacing.refused 16 0))) c.element)
    by-valid true = by_call a refl
    by-valid false = elsewhere (eqb 16) refl refl 16 refl (drop 0 c.element)

call-says : (a : Replacing.Replacing) → (number_of (Replaces.replacing_answer a) ≡ Replaces.replacing_number a) × (place_of (Replaces.replacing_answer a) ≡ Replaces.replacing_place a)
unfolding Replaces.replacing_answer
call-says (Replacing.replaced es) = (refl, refl)
call-says (Replacing.refused n p) = (refl, refl)

-- what is told of equal numbers and places
told-as : {n n' p p' : ℕ} (s : List ℕ) → n ≡ n' → p ≡ p' → ToldApart n' (drop p' s) → ToldApart n (drop p s)
told-as s e q t = rw (e, q) t

pub replace-refuses : (l : ProcessList) (m₀ : Room) → HasPlaces (look_of l m₀) → (c : Call) (r : Outcome) (l₁ : ProcessList) (m₁ : Room) → Replaced l m₀ c r l₁ m₁ → ReplaceRefuses l m₀ c r l₁ m₁
unfolding call_in
replace-refuses l m₀ p c r l₁ m₁ h =
    let x : Look = look_of l m₀ in
    let a : Replacing.Replacing = call (room_length m₀) (kept_of x) (elements_of l m₀) c in
    let q : number_of r ≡ Replaces.replacing_number (call_in x c) = ap number_of h.answer ∙ (call-says (call_in x c)).0 in
    let o : place_of r ≡ Replaces.replacing_place (call_in x c) = ap place_of h.answer ∙ (call-says (call_in x c)).1 in
    record {
      leaves = h;
      refuses = refuses x p (number_of r)
          (λ v z. call-not (room_length m₀) (kept_of x) (elements_of l m₀) c a refl (ap (λ (b : Bool). Replaces.replacing_number (cond b a (Replacing.refused 16 0))) (sym v) ∙ sym q ∙ z))
          (λ v. q ∙ ap (λ (b : Bool). Replaces.replacing_number (cond b a (Replacing.refused 16 0))) v);
      told = told-as c.element q o (told_in x c);
    }

-- ---- the file check beside reading
check-says : (x : Reading) → (number_of (checked_of x) ≡ reading_number x) × (place_of (checked_of x) ≡ reading_place x)
check-says (accepted l) = (refl, refl)
check-says (faulty k p) = (refl, refl)
check-says (unfit k p) = (refl, refl)

read-says : (x : Reading) → (number_of (Reads.reading_answer x) ≡ reading_number x) × (place_of (Reads.reading_answer x) ≡ reading_place x)
unfolding Reads.reading_answer
read-says (accepted l) = (refl, refl)
read-says (faulty k p) = (refl, refl)
read-says (unfit k p) = (refl, refl)

pub checked-read : (file : List ℕ) (n : ℕ) (c : Checked) (a : Answer) (m₀ m₁ : Room) → n ≡ room_length m₀ → c ≡ checked_of (read n file) → ReadsInto (read (room_length m₀) file) a m₀ m₁
    → CheckedAndRead file (record { checked = c; answer = a }) m₀ m₁
checked-read file n c a m₀ m₁ e q h =
    let k : c ≡ checked_of (read (room_length m₀) file) = q ∙ ap (λ (m : ℕ). checked_of (read m file)) e in
    let d : Reading = read (room_length m₀) file in
    let number : number_of a ≡ reading_number d = ap number_of h.answer ∙ (read-says d).0 in
    let place : place_of a ≡ reading_place d = ap place_of h.answer ∙ (read-says d).1 in
    record {
      read = h;
      number = ap number_of k ∙ (check-says d).0 ∙ sym number;
      place = ap place_of k ∙ (check-says d).1 ∙ sym place;
      told = told-as file number place (told-reading (room_length m₀) file);
    }

-- ---- a Description beside its number
none-asked : (k : ℕ) (file : List ℕ) (r : Reading) → (reading_number r ≡ 0 → ⊥) → length (bytes_of (part_asked k file r) file) ≡ 0
none-asked k file (accepted l) z = absurd (z refl)
none-asked k file (faulty j p) z = refl
none-asked k file (unfit j p) z = refl

-- 19 is neither 9 nor 25
told-asked : (k : ℕ) (file : List ℕ) (x : Reading) → ToldApart (reading_number x) (drop (reading_place x) file) → ToldApart (reading_number (asked_for k x)) (drop (reading_place (asked_for k x)) file)
told-asked k file (accepted l) t = go (is_numbered k (length l))
  where
    go : (b : Bool) → ToldApart (reading_number (cond b (accepted l) (faulty 19 0))) (drop (reading_place (cond b (accepted l) (faulty 19 0))) file)
    go true = t
    go false = elsewhere (eqb 19) refl refl 19 refl (drop 0 file)
told-asked k file (faulty j p) t = t
told-asked k file (unfit j p) t = t

told-description : (k : ℕ) (file : List ℕ) → ToldApart (reading_number (description_asked k file)) (drop (reading_place (description_asked k file)) file)
unfolding description_asked
told-description k file = told-asked k file (read_alone file) (told-reading most_numbers file)

pub describes : (file : List ℕ) (k : ℕ) (c : Checked) (n : ℕ) → c ≡ checked_of (description_asked k file) → n ≡ length (bytes_of (description_part k file) file)
    → Describes file k (record { checked = c; length = n })
unfolding description_part
describes file k c n e q =
    let d : Reading = description_asked k file in
    let number : number_of c ≡ reading_number d = ap number_of e ∙ (check-says d).0 in
    record {
      checked = e;
      bytes = q;
      none = λ z. q ∙ none-asked k file d (λ y. z (number ∙ y));
      told = told-as file number (ap place_of e ∙ (check-says d).1) (told-description k file);
    }
