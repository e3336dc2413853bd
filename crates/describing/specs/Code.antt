-- What the answers of the code mean.
use Rattle.std.specs.Prelude.{◌≡◌, Bool, Option, Some, None, List, ℕ, ◌+◌, ◌≤◌, length as size}
use Rattle.std.specs.Borrow.{Bor}
use Rattle.grammar.specs.Parse.{Parser}
use Rattle.grammar.specs.Grammar.{◌>>=◌}
use Rattle.clf.specs.Description.{first_child, description_tag, bytes_of, no_part}
use Rattle.describing.specs.declared.Part.{Part}

-- the empty part at the file's beginning: there is none
abbrev pub no_place : Part
no_place = record { start = 0; length = 0 }

-- r is the part w of the file s: its first byte's place, and how many bytes it has; the part is inside the file
pub record IsPlace (s : List ℕ) (w : ℕ × ℕ) (r : Part) : Type 0 where
  pub start : r.start ≡ w.0
  pub length : r.length ≡ w.1
  pub inside : r.start + r.length ≤ size s

-- the part w of the file s; where it is none, no part has been found
abbrev pub IsFound : List ℕ → ℕ × ℕ → Option Part → Type 0
IsFound s w (Some r) = IsPlace s w r
IsFound s w None = w ≡ no_part

-- `result` is the part w of the caller's `file`, and no equal bytes elsewhere: it points at the place w says inside the file's own bytes
pub record IsPart (file result : Bor (List ℕ)) (w : ℕ × ℕ) : Type 0 where
  pub memory : result.ref_ptr.0 ≡ file.ref_ptr.0
  pub place : result.ref_ptr.1 ≡ file.ref_ptr.1 + w.0
  pub bytes : result.now ≡ bytes_of w file.now

-- behind a node's start tag that is not empty
abbrev pub behind_tag : Parser Bool
behind_tag = (first_child >>= description_tag).run
