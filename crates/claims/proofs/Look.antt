-- DEMAND 3 over list and room: after any run of calls they are those of a fresh reading, into equal room, of the file as it then is. Assumes nothing.
use mathlib.Core.Path.{◌≡◌, refl, sym, ap, ◌∙◌, subst}
use mathlib.Core.Bool.{true}
use mathlib.Core.List.{List, [], ◌∷◌, map}
use Prim.Native.Nat.{ℕ, ◌≤◌}
use native.Mathlib.Omega.{arith}
use lib.ListN.{length, replicate, length-replicate, length-set}
use Rattle.process_list.specs.declared.ProcessList.{ProcessList}
use Rattle.process_list.specs.File.{file_list, keeping}
use Rattle.process_list.specs.List.{Element, most_nodes, node_of, all_numbers, placed, list_of, verdict}
use Rattle.process_list.proofs.Files.{file-keeping, file-fresh, kept-keeping, kept_fresh}
use Rattle.process_list.proofs.Lists.{Fine, accepted-fine, list_length}
use Rattle.room.specs.Room.{room_length, filled_with}
use Rattle.room.proofs.Rooms.{filled-room, filled-again}
use Rattle.valid.specs.Valid.{is_valid}
use Rattle.valid.specs.Valid as Valid
use Rattle.valid.proofs.Readings.{all-length, reading-valid, reading-elements}
use Rattle.valid.proofs.Readings as Readings
use Rattle.grammar.specs.Laws.{nope}
use Rattle.clf.specs.Reading.{Reading, accepted, faulty, unfit, nodes_in, read}
use Rattle.look.specs.Replacing.{Replacing, replaced, refused, list_after, Numbering, unnumbered, numbered, Call, call, kept_by, kept_after}
use Rattle.look.specs.Look.{Look, room_length_of, as_read, kept_of, holding, call_in, look_after}
use Rattle.claims.specs.TriedFile.{as_replacing, NodeState, nodes_after, file_run, list_run, SameRun}
use Rattle.claims.specs.LookRuns.{read_into, fresh, look_run}
use Rattle.claims.specs.Theorems.{Demand3OfLooks}
use Rattle.claims.proofs.Rules.{read_short, WholeElements, text-elements}
use Rattle.claims.proofs.Calls.{accepted-put, put_whole}
use Rattle.claims.proofs.Demand.{demand3}

-- ---- a look that holds the elements of an accepted reading

module _ (n : ℕ) (es : List Element) (w : WholeElements n es) where
  few : length (all_numbers es) ≤ n
  unfolding verdict
  few =
      let f : Fine n (map node_of es) = accepted-fine n (map node_of es) w.fits in
      omega (arith, f.holds, all-length es w.sounds)

-- the look y shows these nodes: what a file says of it is their elements, in a room that was x's, and it keeps their numbers
pub record Shows (x : Look) (h : NodeState) (y : Look) : Type 0 where
  pub read : as_read y ≡ holding x h.elements
  pub kept : kept_of y ≡ h.kept
  pub places : length h.kept ≡ most_nodes

-- nodes as they are read
abbrev pub fresh_nodes : List Element → NodeState
fresh_nodes es = record { elements = es; kept = replicate most_nodes 0 }

pub shows-fresh : (x : Look) (es : List Element) → Shows x (fresh_nodes es) (holding x es)
unfolding holding
shows-fresh x es =
    record { read = ap (λ (l : ProcessList). record { list = l; room = filled_with (all_numbers es) x.room }) (file-fresh es); kept = kept_fresh es; places = simp length-replicate }

module _ (x : Look) (h : NodeState) (w : WholeElements (room_length_of x) h.elements) (y : Look) (t : Shows x h y) where
  abbrev es : List Element
  es = h.elements

  room-is : y.room ≡ filled_with (all_numbers es) x.room
  unfolding holding
  room-is = ap (λ (z : Look). z.room) t.read

  pub room-kept : room_length_of y ≡ room_length_of x
  room-kept = ap room_length room-is ∙ filled-room (all_numbers es) x.room (few (room_length_of x) es w)

  held-again : (new : List Element) → holding y new ≡ holding x new
  unfolding holding
  held-again new = rw (room-is, filled-again (all_numbers new) (all_numbers es) x.room (few (room_length_of x) es w)) refl

  is-reading : Readings.Reading y.list y.room es
  unfolding holding
  is-reading = record {
    list = ap (λ (z : Look). z.list) t.read;
    room = room-is ∙ sym (filled-again (all_numbers es) (all_numbers es) x.room (few (room_length_of x) es w)) ∙ ap (filled_with (all_numbers es)) (sym room-is);
    accepted = rw room-kept w.fits;
    sounds = w.sounds;
  }

  -- THE LOOK IS VALID, and tells its elements
  pub shown-valid : is_valid y.list y.room ≡ true
  shown-valid = reading-valid y.list y.room es is-reading

  pub shown-elements : Valid.elements_of y.list y.room ≡ es
  shown-elements = reading-elements y.list y.room es is-reading

  -- so a call on it is a call by the list alone
  pub calls : (c : Call) → call_in y c ≡ call (room_length_of x) h.kept es c
  unfolding call_in
  calls c = rw (shown-valid, shown-elements, room-kept, t.kept)

  kept-many : (c : Call) (new : List Element) → length (kept_after h.kept c (replaced new)) ≡ most_nodes
  kept-many c new = go c.numbering
    where
      go : (n : Numbering) → length (kept_by h.kept c.node n) ≡ most_nodes
      go unnumbered = t.places
      go (numbered k) = simp length-set t.places

  after-replaced : (c : Call) (new : List Element) → Shows x (nodes_after h c (replaced new)) (look_after y c (replaced new))
  unfolding holding
  after-replaced c new =
      let ks : List ℕ = kept_after (kept_of y) c (replaced new) in
      let e : ks ≡ kept_after h.kept c (replaced new) = ap (λ (k : List ℕ). kept_after k c (replaced new)) t.kept in
      let f : file_list (keeping ks (list_of (placed new))) ≡ list_of (placed new) = file-keeping ks (list_of (placed new)) ∙ file-fresh new in
      let n : length ks ≡ length (list_of (placed new)).nodes = ap length e ∙ kept-many c new ∙ sym (list_length (placed new)) in
      record {
        read = ap (λ (l : ProcessList). record { list = l; room = (holding y new).room }) f ∙ held-again new;
        kept = kept-keeping ks (list_of (placed new)) n ∙ e;
        places = kept-many c new;
      }

  -- and leaves a look that shows the nodes after it
  pub after : (c : Call) (a : Replacing) → Shows x (nodes_after h c a) (look_after y c a)
  after c (replaced new) = after-replaced c new
  after c (refused n p) = t

-- ---- runs on a look are runs by the list alone

pub record SameNodes (x : Look) (h : NodeState) (y : Look) (calls : List Call) : Type 0 where
  pub answers : (look_run y calls).0 ≡ (list_run (room_length_of x) h calls).0
  pub shows : Shows x (list_run (room_length_of x) h calls).1 (look_run y calls).1
  pub whole : WholeElements (room_length_of x) (list_run (room_length_of x) h calls).1.elements

after-whole : (room : ℕ) (h : NodeState) (c : Call) → WholeElements room h.elements → (a : Replacing) → call room h.kept h.elements c ≡ a → WholeElements room (list_after h.elements a)
after-whole room h c w (replaced new) e = put_whole room h.kept h.elements c new w (accepted-put room h.kept h.elements c new e)
after-whole room h c w (refused n p) e = w

pub look-list : (x : Look) (calls : List Call) (h : NodeState) (y : Look) → WholeElements (room_length_of x) h.elements → Shows x h y → SameNodes x h y calls
look-list x [] h y w t = record { answers = refl; shows = t; whole = w }
look-list x (c ∷ cs) h y w t =
    let a : Replacing = call (room_length_of x) h.kept h.elements c in
    let e : call_in y c ≡ a = calls x h w y t c in
    let s : Shows x (nodes_after h c a) (look_after y c (call_in y c)) = subst (λ (z : Replacing). Shows x (nodes_after h c a) (look_after y c z)) (sym e) (after x h w y t c a) in
    let i : SameNodes x (nodes_after h c a) (look_after y c (call_in y c)) cs =
    look-list x cs (nodes_after h c a) (look_after y c (call_in y c)) (after-whole (room_length_of x) h c w a refl) s in
    record { answers = λ j. e j ∷ i.answers j; shows = i.shows; whole = i.whole }

-- ---- DEMAND 3

nodes-read : (r : Reading) (l : List Element) → as_replacing r ≡ replaced l → nodes_in r ≡ l
nodes-read (accepted m) l e = cc
nodes-read (faulty n p) l e = nope cc
nodes-read (unfit n p) l e = nope cc

pub demand3-look : Demand3OfLooks
demand3-look x s l calls e k =
    let room : ℕ = room_length_of x in
    let w : WholeElements room l = text-elements room s l (read_short room s l e).text in
    let q : holding x l ≡ read_into x s = ap (λ (r : Reading). holding x (nodes_in r)) (sym e) in
    let n : SameNodes x (fresh_nodes l) (read_into x s) calls = look-list x calls (fresh_nodes l) (read_into x s) w (subst (Shows x (fresh_nodes l)) q (shows-fresh x l)) in
    let d : SameRun room (read room) (fresh s) l calls = demand3 room calls (fresh s) l e k in
    record {
      answers = n.answers ∙ sym d.answers;
      look = n.shows.read ∙ ap (holding x) (sym (nodes-read (read room (file_run (read room) (fresh s) calls).1.file) _ d.list));
      places = d.places;
    }
