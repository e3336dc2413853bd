-- Demand 3 over a look: the list, and the table room, after a reading and any run of replacing calls, numbered ones among them (document 02, W-208).
use Rattle.std.specs.Prelude.{◌≡◌, List, [], ◌∷◌, ℕ, replicate}
use Rattle.process_list.specs.List.{most_nodes}
use Rattle.clf.specs.Reading.{nodes_in, read}
use Rattle.look.specs.Replacing.{Replacing, Call}
use Rattle.look.specs.Look.{Look, room_length_of, as_read, holding, call_in, look_after}
use Rattle.claims.specs.TriedFile.{FileState, file_run, AllInElement}

-- what a reading leaves: 'A refused reading gives no nodes and zeroed room'
abbrev pub read_into : Look → List ℕ → Look
read_into x s = holding x (nodes_in (read (room_length_of x) s))

-- the file that was read, and each kept number '0 after a reading'
abbrev pub fresh : List ℕ → FileState
fresh s = record { file = s; kept = replicate most_nodes 0 }

-- a run of calls: the answers, and the look after them
abbrev pub look_run : Look → List Call → List Replacing × Look
look_run x [] = ([], x)
look_run x (c ∷ calls) =
    let a : Replacing = call_in x c in
    let z : List Replacing × Look = look_run (look_after x c a) calls in
    (a ∷ z.0, z.1)

-- DEMAND 3, over list and room: the file s is read into x, then the calls are made. The answers are those of the tried files; and list and room, 'the kept numbers left out of what is compared',
-- are those of 'a fresh reading, into equal room, of the file with every accepted element in place and the refused ones ignored'
pub record SameLook (x : Look) (s : List ℕ) (calls : List Call) : Type 0 where
  pub answers : (look_run (read_into x s) calls).0 ≡ (file_run (read (room_length_of x)) (fresh s) calls).0
  pub look : as_read (look_run (read_into x s) calls).1 ≡ read_into x (file_run (read (room_length_of x)) (fresh s) calls).1.file
  pub places : AllInElement (read (room_length_of x)) (fresh s) calls
