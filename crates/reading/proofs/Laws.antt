-- Reading, from what a text's code answered. Assumes nothing.
use Rattle.process_list.specs.List.{Verdict, Element, all_numbers}
use mathlib.Core.Path.{◌≡◌, refl, sym, ap, ◌∙◌, subst}
use mathlib.Core.Bool.{Bool, true, false, cond, ◌&&◌}
use mathlib.Core.List.{List, []}
use Prim.Native.Nat.{ℕ, ◌+◌, ◌-◌, ◌≤◌, ◌<◌, min}
use native.Mathlib.Omega.{arith}
use lib.Dec.{ltb, leb}
use lib.IntN.{ℤ, pos}
use lib.ListN.{length, take, drop, length-drop, length-take, length-map}
use lib.Seq.{take_all}
use borrow.Author.Tests.{lt-ltb, le-ltb, ltb-true, ltb-false, le-leb, lt-leb}
use denote.Ref.{Bor}
use Rattle.decimal.specs.declared.Decimal.{Decimal}
use Rattle.grammar.specs.Parse.{Out, done, fault, cut, then_out}
use Rattle.grammar.specs.Laws.{nope}
use Rattle.process_list.specs.declared.ProcessList.{ProcessList}
use Rattle.process_list.specs.declared.Unfit.{Unfit}
use Rattle.process_list.specs.declared.Unfit.TheVariants as Unfits
use Rattle.process_list.specs.List as Lists
use Rattle.process_list.proofs.Lists.{list-placed, verdict-list, accepted-fine, Fine, list_count}
use Rattle.room.specs.Room.{Room, room_length, filled, cleared_in, filled_with, coefficient_parts, power_parts}
use Rattle.room.proofs.Contents.{SliceFrom, filled-length, filled-behind}
use Rattle.room.proofs.Rooms.{RoomFrom, from-refl, length-at-most, cleared-nothing}
use Rattle.xml.specs.Code.{Scan}
use Rattle.std.specs.Prelude.{Ok, Err}
use Rattle.std.specs.Result.{is_err}
use Rattle.xml.specs.declared.Stop.TheVariants as Stops
use Rattle.xml.specs.Code.{scan_out, Inside}
use Rattle.clf.specs.List.{Document, document, tail}
use Rattle.clf.specs.Places.{node_span}
use Rattle.clf.specs.Reading.{Reading, accepted, faulty, unfit, most_bytes, nodes_in, nodes_among, place_in, reading_by, list_reading, tail_reading, text_reading, read_text, read}
use Rattle.clf.specs.Reading.{read_alone, asked_for, description_asked}
use Rattle.clf.specs.Whole.{whole_nodes, whole_place}
use Rattle.clf.specs.Description.{no_part, part_from, part_asked, description_part}
use Rattle.clf.proofs.Whole.{document-whole, place-whole}
use Rattle.describing.specs.declared.Part.{Part}
use Rattle.describing.specs.Code.{no_place, IsPlace, IsPart}
use Rattle.describing.proofs.Texts.{none_found_lem}
use Rattle.file_text.specs.declared.ListState.{ListState}
use Rattle.file_text.specs.declared.ListStep.{ListStep}
use Rattle.file_text.specs.Code.{bare, state_with, state_from, state_of, fitting_numbers, ListReads, text_nodes, after_root}
use Rattle.file_text.proofs.Nodes.{bare-length}
use Rattle.reading.specs.declared.Refused.{Refused}
use Rattle.reading.specs.Code as Code
use Rattle.reading.specs.Code.{Answer, Checked, checked_of, reading_answer, ReadsInto, refused_at, judged_length, judged_by, judged_scan, judged_step, ListIn, NodeAt, asked_by, TextAlone}

-- ---- reading by the nodes of the text

abbrev by_nodes : ℕ → List ℕ → Out (List Element) → Reading
by_nodes room s (done l r) = list_reading room l
by_nodes room s (fault k r) = faulty k (place_in s r)
by_nodes room s cut = faulty 1 (length s)

text-by : (room : ℕ) (s : List ℕ) → read_text room s ≡ by_nodes room s (text_nodes s)
unfolding read_text text_nodes
text-by room s = by (document.run s)
  where
    by-tail : (d : Document) (o : Out (Unit {0})) → tail_reading room s d o ≡ by_nodes room s (then_out o (λ u q. done (nodes_among d.parts) q))
    by-tail d (done u r) = refl
    by-tail d (fault k r) = refl
    by-tail d cut = refl

    by : (o : Out Document) → text_reading room s o ≡ by_nodes room s (then_out o after_root)
    by (done d r) = by-tail d (tail r)
    by (fault k r) = refl
    by cut = refl

place-back : (s : List ℕ) (p : ℕ) → p ≤ length s → place_in s (drop p s) ≡ p
place-back s p h = omega (arith, length-drop p s)

-- ---- the verdict over the list

list-judged : (l : List Element) (v : Verdict) → checked_of (reading_by l v) ≡ Code.judged_by v
list-judged l (Ok u) = refl
list-judged l (Err why) = refl

-- ---- what the state of a text says

module _ (wanted : ℕ) (s : List ℕ) (st : ListState) (e : st ≡ state_of wanted s) where
  state-list : st.list ≡ Lists.list_of (bare (whole_nodes s))
  unfolding state_of state_from state_with
  state-list = ap (λ (x : ListState). x.list) e

  state-over : st.over ≡ ltb 32 (length (whole_nodes s))
  unfolding state_of state_from state_with
  state-over = ap (λ (x : ListState). x.over) e

  state-start : st.start ≡ whole_place wanted s
  unfolding state_of state_from state_with whole_place
  state-start = ap (λ (x : ListState). x.start) e

  -- the verdict that the code sees is the list's
  seen : (room : ℕ) → cond st.over (Err Unfits.TooManyNodes) (Lists.judged room (Lists.nodes_of st.list)) ≡ Lists.verdict room (whole_nodes s)
  seen room =
      ap (λ (b : Bool). cond b (Err Unfits.TooManyNodes) (Lists.judged room (Lists.nodes_of st.list))) state-over
      ∙ ap (λ (x : _). cond (ltb 32 (length (whole_nodes s))) (Err Unfits.TooManyNodes) (Lists.judged room (Lists.nodes_of x))) state-list
      ∙ sym (verdict-list room (whole_nodes s))

-- ---- what is to be said of a text

module _ (wanted : ℕ) (s : List ℕ) (r : ListStep) (m₀ m₁ : Room) (h : ListReads wanted s r m₀ m₁) (room : ℕ) where
  judged-go : (x : Scan) → scan_out (λ e. whole_nodes s) s x ≡ text_nodes s → Inside 0 s 0 x
      → judged_scan (length s) x (Code.judged_by (cond r.state.over (Err Unfits.TooManyNodes) (Lists.judged room (Lists.nodes_of r.state.list)))) ≡ checked_of (read_text room s)
  unfolding list_reading
  judged-go (Ok e) q b =
      ap Code.judged_by (seen wanted s r.state h.state room)
      ∙ sym (ap checked_of (text-by room s ∙ ap (by_nodes room s) (sym q)) ∙ list-judged (whole_nodes s) (Lists.verdict room (whole_nodes s)))
  judged-go (Err (Stops.Fault k p)) q b = sym (ap checked_of (text-by room s ∙ ap (by_nodes room s) (sym q)) ∙ ap (refused_at k) (place-back s p b.1))
  judged-go (Err Stops.Cut) q b = sym (ap checked_of (text-by room s ∙ ap (by_nodes room s) (sym q)))

  pub judged-is : judged_step (length s) r room ≡ checked_of (read_text room s)
  unfolding judged_step
  judged-is = judged-go r.scan h.out h.inside

-- ---- an accepted text

verdict-accepted : (l : List Element) (v : Verdict) → checked_of (reading_by l v) ≡ Ok tt → (reading_by l v ≡ accepted l) × (v ≡ Ok tt)
verdict-accepted l (Ok u) q = (refl, refl)
verdict-accepted l (Err why) q = nope cc

-- its nodes are those that stand whole
record Sound (s : List ℕ) (room : ℕ) : Type 0 where
  reading : read_text room s ≡ accepted (whole_nodes s)
  few : length (whole_nodes s) ≤ 32
  fits : Lists.total (bare (whole_nodes s)) ≤ min room Lists.most_numbers
  text : Document
  behind : List ℕ
  found : document.run s ≡ done text behind

module _ (s : List ℕ) (room : ℕ) where
  by-list : (d : Document) (u : List ℕ) → document.run s ≡ done d u → (l : List Element) → l ≡ whole_nodes s → read_text room s ≡ list_reading room l
      → checked_of (read_text room s) ≡ Ok tt → Sound s room
  unfolding list_reading Lists.verdict
  by-list d u e l n t j =
      let v : read_text room s ≡ list_reading room (whole_nodes s) = t ∙ ap (list_reading room) n in
      let a = verdict-accepted (whole_nodes s) (Lists.verdict room (whole_nodes s)) (ap checked_of (sym v) ∙ j) in
      let f : Fine room (bare (whole_nodes s)) = accepted-fine room (bare (whole_nodes s)) a.1 in
      record { reading = v ∙ a.0; few = omega (arith, f.few, bare-length (whole_nodes s)); fits = f.holds; text = d; behind = u; found = e }

  sound : checked_of (read_text room s) ≡ Ok tt → Sound s room
  unfolding read_text
  sound j = by (document.run s) refl j
    where
      by : (o : Out Document) → document.run s ≡ o → checked_of (text_reading room s o) ≡ Ok tt → Sound s room
      by (done d u) e z = behind (tail u) refl z
        where
          behind : (t : Out (Unit {0})) → tail u ≡ t → checked_of (tail_reading room s d t) ≡ Ok tt → Sound s room
          behind (done x q) w y =
              by-list d u e (nodes_among d.parts) (document-whole s d u e).nodes (ap (text_reading room s) e ∙ ap (tail_reading room s d) w) j
          behind (fault k q) w y = nope cc
          behind cut w y = nope cc
      by (fault k u) e z = nope cc
      by cut e z = nope cc

-- ---- reading into the room

-- a room that holds numbers is of the same slices' lengths
pub filled-from : (xs : List Decimal) (m : Room) → length xs ≤ room_length m → RoomFrom 0 m (filled_with xs m)
unfolding filled_with
filled-from xs m h =
    let l = length-at-most m in
    let a : length (coefficient_parts xs) ≡ length xs = length-map xs (λ (x : Decimal). x.coefficient) in
    let b : length (power_parts xs) ≡ length xs = length-map xs (λ (x : Decimal). x.power) in
    record { coefficients = slice (coefficient_parts xs) m.coefficients (omega arith) l.0; powers = slice (power_parts xs) m.powers (omega arith) l.1 }
  where
    slice : (ys t : List ℤ) → length ys ≤ room_length m → room_length m ≤ length t → SliceFrom (room_length m) 0 t (filled (room_length m) (pos 0) ys t)
    slice ys t u v = record { size = filled-length (room_length m) (pos 0) ys t u v; front = refl; behind = filled-behind (room_length m) (pos 0) ys t u }

-- a refused reading has no numbers
refusal-answer : (why : Refused) (x : Reading) → checked_of x ≡ Err why → (Err why ≡ reading_answer x) × (all_numbers (nodes_in x) ≡ [])
unfolding reading_answer all_numbers
refusal-answer why (accepted l) q = nope cc
refusal-answer why (faulty j i) q = let e : why ≡ record { number = j; place = i } = cc in (ap (λ (w : Refused). Err w) e, refl)
refusal-answer why (unfit j i) q = let e : why ≡ record { number = j; place = i } = cc in (ap (λ (w : Refused). Err w) e, refl)

-- and the whole room cleared, whatever it held
pub list-refused : (x : Reading) (why : Refused) (m₀ m₁ m₂ : Room) (n : ℕ) → ListIn x (Err why) m₀ m₁ → n ≡ room_length m₁ → m₂ ≡ cleared_in 0 n m₁ → ReadsInto x (Err why) m₀ m₂
list-refused x why m₀ m₁ m₂ n h e z =
    let a = refusal-answer why x h.0 in
    record {
      answer = a.0;
      room = z ∙ ap (λ (b : ℕ). cleared_in 0 b m₁) e ∙ cleared-nothing m₀ m₁ h.1 ∙ ap (λ (xs : List Decimal). filled_with xs m₀) (sym a.1);
    }

-- the answer says whether that is to be done
pub list-cleared : (x : Reading) (r : Answer) (m₀ m₁ m₂ : Room) (n : ℕ) → ListIn x r m₀ m₁ → is_err r ≡ true → n ≡ room_length m₁ → m₂ ≡ cleared_in 0 n m₁ → ReadsInto x r m₀ m₂
list-cleared x (Ok list) m₀ m₁ m₂ n h q e z = nope cc
list-cleared x (Err why) m₀ m₁ m₂ n h q e z = list-refused x why m₀ m₁ m₂ n h e z

pub list-kept : (x : Reading) (r : Answer) (m₀ m₁ : Room) → ListIn x r m₀ m₁ → is_err r ≡ false → ReadsInto x r m₀ m₁
list-kept x (Ok list) m₀ m₁ h q = h
list-kept x (Err why) m₀ m₁ h q = nope cc

fitting-less : (n : ℕ) (xs : List Decimal) → length (fitting_numbers n xs) ≤ n
fitting-less n xs = simp length-take (omega arith)

module _ (s : List ℕ) (r : ListStep) (m₀ m₁ : Room) (h : ListReads 0 s r m₀ m₁) (n : ℕ) (e : n ≡ room_length m₀) where
  text-judged : (j : Checked) → judged_step (length s) r n ≡ j → checked_of (read_text (room_length m₀) s) ≡ j
  text-judged j q = ap (λ (k : ℕ). checked_of (read_text k s)) (sym e) ∙ sym (judged-is 0 s r m₀ m₁ h n) ∙ q

  -- a refused text
  pub text-refused : (why : Refused) → judged_step (length s) r n ≡ Err why → ListIn (read_text (room_length m₀) s) (Err why) m₀ m₁
  text-refused why q = (
    text-judged (Err why) q,
    subst (λ (m : Room). RoomFrom 0 m₀ m) (sym h.room) (filled-from (fitting_numbers (room_length m₀) (all_numbers (whole_nodes s))) m₀ (fitting-less (room_length m₀) (all_numbers (whole_nodes s)))),
  )

  -- an accepted reading: the numbers, and zeros behind them
  module _ (q : judged_step (length s) r n ≡ Ok tt) where
    well : Sound s (room_length m₀)
    well = sound s (room_length m₀) (text-judged (Ok tt) q)

    all_fit : length (all_numbers (whole_nodes s)) ≤ min (room_length m₀) Lists.most_numbers
    all_fit = omega (arith, well.fits, h.counted)

    held : m₁ ≡ filled_with (all_numbers (whole_nodes s)) m₀
    held = h.room ∙ ap (λ (xs : List Decimal). filled_with xs m₀) (take_all (min (room_length m₀) Lists.most_numbers) (all_numbers (whole_nodes s)) all_fit)

    abbrev placed : Answer
    placed = Ok (Lists.placed_list r.state.list)

    answer-go : placed ≡ reading_answer (accepted (whole_nodes s))
    unfolding reading_answer
    answer-go =
        ap (λ (l : ProcessList). Ok (Lists.placed_list l)) (state-list 0 s r.state h.state)
        ∙ ap (λ (l : ProcessList). Ok l) (list-placed (whole_nodes s) (omega (arith, well.few)) (omega (arith, well.fits)))

    pub text-accepted : ListIn (read_text (room_length m₀) s) placed m₀ m₁
    text-accepted = subst (λ (x : Reading). ReadsInto x placed m₀ m₁) (sym well.reading) (record { answer = answer-go; room = held })

-- ---- the limit of 16 MiB

large : (s : List ℕ) (why : Refused) → judged_length (length s) ≡ Err why → (why ≡ record { number = 4; place = 0 }) × (most_bytes < length s)
large s why q = by (ltb most_bytes (length s)) refl q
  where
    by : (b : Bool) → ltb most_bytes (length s) ≡ b → cond b (refused_at {A = Unit {0}} 4 0) (Ok (tt {0})) ≡ Err why → (why ≡ record { number = 4; place = 0 }) × (most_bytes < length s)
    by true e w = (cc, ltb-true most_bytes (length s) e)
    by false e w = nope cc

small : (s : List ℕ) → judged_length (length s) ≡ Ok tt → length s ≤ most_bytes
small s q = by (ltb most_bytes (length s)) refl q
  where
    by : (b : Bool) → ltb most_bytes (length s) ≡ b → cond b (refused_at {A = Unit {0}} 4 0) (Ok (tt {0})) ≡ Ok (tt {0}) → length s ≤ most_bytes
    by true e w = nope cc
    by false e w = ltb-false most_bytes (length s) e

pub read-large : (room : ℕ) (s : List ℕ) → most_bytes < length s → read room s ≡ faulty 4 0
unfolding read
read-large room s h = ap (λ (b : Bool). cond b (faulty 4 0) (read_text room s)) (lt-ltb most_bytes (length s) h)

pub read_small : (room : ℕ) (s : List ℕ) → length s ≤ most_bytes → read room s ≡ read_text room s
unfolding read
read_small room s h = ap (λ (b : Bool). cond b (faulty 4 0) (read_text room s)) (le-ltb most_bytes (length s) h)

-- a file over 16 MiB
pub judged-large : (room : ℕ) (s : List ℕ) (why : Refused) → judged_length (length s) ≡ Err why → Err why ≡ checked_of (read room s)
judged-large room s why q = let b = large s why q in ap Err b.0 ∙ ap checked_of (sym (read-large room s b.1))

pub list-large : (s : List ℕ) (why : Refused) (m : Room) → judged_length (length s) ≡ Err why → ListIn (read (room_length m) s) (Err why) m m
list-large s why m q = (sym (judged-large (room_length m) s why q), from-refl 0 m)

-- and any other
module _ (s : List ℕ) (r : ListStep) (m₀ m₁ : Room) (q : judged_length (length s) ≡ Ok tt) (n : ℕ) (e : n ≡ room_length m₀) (h : ListReads 0 s r m₀ m₁) where
  pub list-ill : (why : Refused) → judged_step (length s) r n ≡ Err why → ListIn (read (room_length m₀) s) (Err why) m₀ m₁
  list-ill why j = rw (read_small (room_length m₀) s (small s q)) (text-refused s r m₀ m₁ h n e why j)

  pub list-well : judged_step (length s) r n ≡ Ok tt → ListIn (read (room_length m₀) s) (Ok (Lists.placed_list r.state.list)) m₀ m₁
  list-well j = rw (read_small (room_length m₀) s (small s q)) (text-accepted s r m₀ m₁ h n e j)

-- ---- without room

module _ (wanted : ℕ) (s : List ℕ) (r : ListStep) (t : TextAlone wanted s r) (g : judged_length (length s) ≡ Ok tt) where
  pub judged-alone : (room : ℕ) → judged_step (length s) r room ≡ checked_of (read room s)
  judged-alone room = judged-is wanted s r t.m₀ t.m₁ t.reads room ∙ ap checked_of (sym (read_small room s (small s g)))

  -- the nodes of an accepted file
  sound-alone : judged_step (length s) r 262144 ≡ Ok tt → Sound s 262144
  sound-alone q = sound s 262144 (sym (judged-is wanted s r t.m₀ t.m₁ t.reads 262144) ∙ q)

  count-is : length (whole_nodes s) ≤ 32 → r.state.list.count ≡ length (whole_nodes s)
  count-is h =
      ap (λ (l : _). l.count) (state-list wanted s r.state t.reads.state) ∙ list_count (bare (whole_nodes s)) (omega (arith, bare-length (whole_nodes s))) ∙ bare-length (whole_nodes s)

  asked-go : (k : ℕ) (j : Checked) → judged_step (length s) r 262144 ≡ j → asked_by j k r.state.list.count ≡ checked_of (description_asked k s)
  unfolding description_asked
  asked-go k (Ok u) q =
      let v : Sound s 262144 = sound-alone q in
      let a : read_alone s ≡ accepted (whole_nodes s) = read_small Lists.most_numbers s (small s g) ∙ v.reading in
      ap (λ (x : ℕ). cond (ltb 0 k && leb k x) (Ok tt) (refused_at 19 0)) (count-is v.few) ∙ by (ltb 0 k && leb k (length (whole_nodes s)))
      ∙ sym (ap (λ (x : Reading). checked_of (asked_for k x)) a)
    where
      by : (b : Bool) → cond b (Ok tt) (refused_at 19 0) ≡ checked_of (cond b (accepted (whole_nodes s)) (faulty 19 0))
      by true = refl
      by false = refl
  asked-go k (Err why) q = let e : Err why ≡ checked_of (read_alone s) = sym q ∙ judged-alone Lists.most_numbers in by (read_alone s) e
    where
      by : (x : Reading) → Err why ≡ checked_of x → Err why ≡ checked_of (asked_for k x)
      by (accepted l) e = nope cc
      by (faulty j i) e = e
      by (unfit j i) e = e

  asked_is : (k : ℕ) → asked_by (judged_step (length s) r 262144) k r.state.list.count ≡ checked_of (description_asked k s)
  asked_is k = asked-go k (judged_step (length s) r 262144) refl

-- ---- where a node begins

pub node-large : (k : ℕ) (s : List ℕ) (why : Refused) → judged_length (length s) ≡ Err why → NodeAt k s (Err why)
unfolding description_asked
node-large k s why q = let b = large s why q in ap (λ (x : Reading). checked_of (asked_for k x)) (read-large Lists.most_numbers s b.1) ∙ ap Err (sym b.0)

module _ (k : ℕ) (s : List ℕ) (r : ListStep) (t : TextAlone k s r) (g : judged_length (length s) ≡ Ok tt) where
  asked : (j : Checked) → asked_by (judged_step (length s) r 262144) k r.state.list.count ≡ j → checked_of (description_asked k s) ≡ j
  asked j q = sym (asked_is k s r t g k) ∙ q

  pub node-ill : (why : Refused) → judged_step (length s) r 262144 ≡ Err why → NodeAt k s (Err why)
  node-ill why q = asked (Err why) (ap (λ (j : Checked). asked_by j k r.state.list.count) q)

  module _ (q : judged_step (length s) r 262144 ≡ Ok tt) where
    by-number : (b : Bool) → (ltb 0 k && leb k r.state.list.count) ≡ b → asked_by (judged_step (length s) r 262144) k r.state.list.count ≡ cond b (Ok tt) (refused_at 19 0)
    by-number b e = ap (λ (j : Checked). asked_by j k r.state.list.count) q ∙ ap (λ (c : Bool). cond c (Ok tt) (refused_at 19 0)) e

    pub node-zero : k ≡ 0 → NodeAt k s (refused_at 19 0)
    node-zero z = asked (refused_at 19 0) (by-number false (ap (λ (n : ℕ). ltb 0 n && leb n r.state.list.count) z))

    pub node-beyond : r.state.list.count < k → NodeAt k s (refused_at 19 0)
    node-beyond h = asked (refused_at 19 0) (by-number false (simp (lt-leb _ _ h) (none (ltb 0 k))))
      where
        none : (b : Bool) → (b && false) ≡ false
        none true = refl
        none false = refl

    pub node-well : (k ≡ 0 → ⊥) → k ≤ r.state.list.count → NodeAt k s (Ok r.state.start)
    node-well f h =
        let v : Sound s 262144 = sound-alone k s r t g q in
        let c : r.state.list.count ≡ length (whole_nodes s) = count-is k s r t g v.few in
        let n : length (nodes_among v.text.parts) ≡ length (whole_nodes s) = ap length (document-whole s v.text v.behind v.found).nodes in
        let i : 0 < k = omega arith in (
          asked (Ok tt) (by-number true (simp (lt-ltb 0 k i, le-leb _ _ h))),
          state-start k s r.state t.reads.state ∙ place-whole s v.text v.behind k v.found i (omega (arith, h)) (omega (arith, v.few)),
        )

-- ---- where a Description stands

refused-part : (k : ℕ) (s : List ℕ) (x : Reading) (why : Refused) → checked_of x ≡ Err why → part_asked k s x ≡ no_part
refused-part k s (accepted l) why q = nope cc
refused-part k s (faulty j i) why q = refl
refused-part k s (unfit j i) why q = refl

accepted-part : (k : ℕ) (s : List ℕ) (x : Reading) → checked_of x ≡ Ok tt → part_asked k s x ≡ part_from (node_span s (k - 1)).0 s
accepted-part k s (accepted l) q = refl
accepted-part k s (faulty j i) q = nope cc
accepted-part k s (unfit j i) q = nope cc

pub part-refused : (k : ℕ) (s : List ℕ) (why : Refused) (d : Part) → NodeAt k s (Err why) → d ≡ no_place → IsPlace s (description_part k s) d
unfolding description_part
part-refused k s why d q h = none_found_lem s (description_part k s) d h (refused-part k s (description_asked k s) why q)

pub part-found : (k : ℕ) (s : List ℕ) (start : ℕ) (d : Part) → NodeAt k s (Ok start) → IsPlace s (part_from start s) d → IsPlace s (description_part k s) d
unfolding description_part
part-found k s start d q h =
    subst (λ (w : ℕ × ℕ). IsPlace s w d) (ap (λ (a : ℕ). part_from a s) q.1 ∙ sym (accepted-part k s (description_asked k s) q.0)) h

-- ---- the verdict as the code takes it apart

pub judged-unfit : (v : Verdict) (why : Unfit) → v ≡ Err why → judged_by v ≡ refused_at (Lists.unfit_number why) (Lists.unfit_place why)
judged-unfit v why q = ap judged_by q

-- the part itself, of which the code knows its place
pub part-is : (file result : Bor (List ℕ)) (w : ℕ × ℕ) (p : Part) → IsPlace file.now w p → result.ref_ptr.0 ≡ file.ref_ptr.0 → result.ref_ptr.1 ≡ file.ref_ptr.1 + p.start
    → result.now ≡ take p.length (drop p.start file.now) → IsPart file result w
part-is file result w p h a b c = record {
  memory = a;
  place = b ∙ ap (λ (n : ℕ). file.ref_ptr.1 + n) h.start;
  bytes = c ∙ ap (λ (n : ℕ). take n (drop p.start file.now)) h.length ∙ ap (λ (n : ℕ). take w.1 (drop n file.now)) h.start;
}
