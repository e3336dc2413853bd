-- DEMAND 3 of a reading and a run of calls, from the run of the definitions and the theorem on them. Assumes nothing.
use mathlib.Core.Path.{◌≡◌, refl, sym, ap, subst, ◌∙◌}
use mathlib.Core.List.{List, [], ◌++◌, map}
use Prim.Native.Nat.{ℕ}
use Rattle.std.specs.Prelude.{Ok, Err}
use Rattle.std.specs.Result.{result_and, result_unwrap_or}
use lib.ListN.{length, take, drop, length-map}
use lib.Seq.{take_at}
use Rattle.process_list.specs.declared.ProcessList.{ProcessList}
use Rattle.process_list.specs.List.{all_numbers, list_of, placed}
use Rattle.process_list.specs.List as Lists
use Rattle.room.specs.Room.{Room, room_length, filled_with}
use Rattle.clf.specs.Reading.{Reading, accepted, faulty, unfit, reading_number, nodes_in, read}
use Rattle.reading.specs.Code.{Answer, Checked, list_read, number_of, checked_of, reading_answer, ReadsInto}
use Rattle.look.specs.Look.{Look, room_length_of, as_read, holding}
use Rattle.look.specs.Replacing.{Call}
use Rattle.look.specs.Replacing as Replacing
use Rattle.replacing.specs.Code.{look_of}
use Rattle.claims.specs.TriedFile.{file_run}
use Rattle.claims.specs.LookRuns.{read_into, fresh, look_run, SameLook}
use Rattle.claims.proofs.Refusals.{number-accepted}
use Rattle.claims.proofs.Look.{demand3-look}
use Rattle.replace_run.specs.Runs.{numbers_said, places_said, CallsRun}
use Rattle.replace_run.proofs.Laws.{length-answers}
use Rattle.demand3.specs.Demand.{Demand3, ReadAndReplaced}

-- whether the file was accepted
abbrev pub said_of : Answer → Checked
said_of (Ok list) = Ok tt
said_of (Err why) = Err why

-- ---- what a reading leaves is the definition's look

room-is : (x : Look) (r : Reading) → filled_with (all_numbers (nodes_in r)) x.room ≡ (holding x (nodes_in r)).room
unfolding holding
room-is x r = refl

list-is : (x : Look) (r : Reading) → list_of (placed (nodes_in r)) ≡ (holding x (nodes_in r)).list
unfolding holding
list-is x r = refl

left-is : (r : Reading) → list_read (reading_answer r) ≡ list_of (placed (nodes_in r))
unfolding reading_answer placed Lists.place_from
left-is (accepted l) = refl
left-is (faulty k p) = refl
left-is (unfit k p) = refl

pub read-list : (r : Answer) (n e : ProcessList) → n ≡ result_unwrap_or r e → e ≡ list_of [] → n ≡ list_read r
read-list (Ok list) n e p q = p
read-list (Err why) n e p q = p ∙ q

pub said-and : (r : Answer) (k : Checked) → k ≡ result_and r (Ok tt) → k ≡ said_of r
said-and (Ok list) k p = p
said-and (Err why) k p = p

pub read-look : (x : Look) (s : List ℕ) (r : Answer) (m : Room) → ReadsInto (read (room_length_of x) s) r x.room m → look_of (list_read r) m ≡ read_into x s
read-look x s r m h =
    let d : Reading = read (room_length_of x) s in
    ap (λ (z : Answer). look_of (list_read z) m) h.answer ∙ ap (λ (z : ProcessList). look_of z m) (left-is d ∙ list-is x d) ∙ ap (look_of (read_into x s).list) (h.room ∙ room-is x d)

-- what is said of it beside its list
checked-is : (r : Reading) → said_of (reading_answer r) ≡ checked_of r
unfolding reading_answer
checked-is (accepted l) = refl
checked-is (faulty k p) = refl
checked-is (unfit k p) = refl

number-is : (r : Reading) → number_of (checked_of r) ≡ reading_number r
number-is (accepted l) = refl
number-is (faulty k p) = refl
number-is (unfit k p) = refl

-- ---- the look after the run is a fresh reading's

module _ (s : List ℕ) (calls : List Call) (m₀ : Room) where
  front : (f : Replacing.Replacing → ℕ) (x : Look) (a a₀ : List ℕ) → a ≡ map f (look_run x calls).0 ++ drop (length calls) a₀ → take (length calls) a ≡ map f (look_run x calls).0
  front f x a a₀ e =
      let n : length (map f (look_run x calls).0) ≡ length calls = length-map (look_run x calls).0 f ∙ length-answers x calls in
      ap (take (length calls)) e ∙ take_at (map f (look_run x calls).0) (drop (length calls) a₀) (length calls) n

  by-look : (x : Look) → x.room ≡ m₀ → SameLook x s calls → (y : Look) (ns₀ ps₀ ns ps : List ℕ) → CallsRun (read_into x s) calls ns₀ ps₀ y ns ps
      → Demand3 s m₀ calls (take (length calls) ns) (take (length calls) ps) y
  by-look x e d y ns₀ ps₀ ns ps t =
      subst (λ (m : Room). Demand3 s m calls (take (length calls) ns) (take (length calls) ps) y) e
      (let file : List ℕ = (file_run (read (room_length_of x)) (fresh s) calls).1.file in
      let v : as_read y ≡ read_into x file = ap as_read t.left ∙ d.look in
      record {
        numbers = front _ (read_into x s) ns ns₀ t.numbers ∙ ap numbers_said d.answers;
        places = front _ (read_into x s) ps ps₀ t.places ∙ ap places_said d.answers;
        in_element = d.places;
        list = ap (λ (z : Look). z.list) v ∙ sym (list-is x (read (room_length_of x) file));
        room = ap (λ (z : Look). z.room) v ∙ sym (room-is x (read (room_length_of x) file));
      })

-- THE PROMISE: r is what reading answered, l the list that the run left
pub promise : (s : List ℕ) (calls : List Call) (r : Answer) (l : ProcessList) (m₀ m m₁ : Room) (ns₀ ns₁ ps₀ ps₁ : List ℕ) → ReadsInto (read (room_length m₀) s) r m₀ m
    → (n : ProcessList) → n ≡ list_read r → CallsRun (look_of n m) calls ns₀ ps₀ (look_of l m₁) ns₁ ps₁ → (k : Checked) → k ≡ said_of r
    → ReadAndReplaced s calls (record { read = k; list = l }) m₀ m₁ ns₀ ns₁ ps₀ ps₁
promise s calls r l m₀ m m₁ ns₀ ns₁ ps₀ ps₁ h n nq t k kq =
    let x : Look = look_of l m₀ in
    let q : look_of n m ≡ read_into x s = ap (λ (z : ProcessList). look_of z m) nq ∙ read-look x s r m h in
    let u : CallsRun (read_into x s) calls ns₀ ps₀ (look_of l m₁) ns₁ ps₁ = subst (λ (z : Look). CallsRun z calls ns₀ ps₀ (look_of l m₁) ns₁ ps₁) q t in
    let c : k ≡ checked_of (read (room_length m₀) s) = kq ∙ ap said_of h.answer ∙ checked-is (read (room_length m₀) s) in
    record {
      answer = c;
      run = u;
      demand3 = λ z b.
          let w = number-accepted (room_length m₀) s (sym (ap number_of c ∙ number-is (read (room_length m₀) s)) ∙ z) in
          by-look s calls m₀ x refl (demand3-look x s w.0 calls w.1 b) (look_of l m₁) ns₀ ps₀ ns₁ ps₁ u;
    }
