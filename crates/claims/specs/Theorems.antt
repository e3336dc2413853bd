-- The theorems on the definitions, each as a named type. Their proofs are in proofs/; the demands of the code itself are contracts (docs/THEOREMS.md).
use Rattle.std.specs.Prelude.{◌≡◌, true, List, ℕ, length, drop}
use Rattle.process_list.specs.List.{Element, placed, all_numbers, list_of}
use Rattle.room.specs.Room.{Room, room_length, filled_with}
use Rattle.valid.specs.Valid.{is_valid}
use Rattle.clf.specs.Reading.{accepted, reading_number, reading_place, read, read_text}
use Rattle.look.specs.Look.{Look, room_length_of}
use Rattle.look.specs.Replacing.{refused, Call, call}
use Rattle.claims.specs.Cut.{Longer}
use Rattle.claims.specs.Refusals.{Answered, ToldApart}
use Rattle.claims.specs.Rules.{Allowed}
use Rattle.claims.specs.TriedFile.{Small}
use Rattle.claims.specs.LookRuns.{fresh, SameLook}

-- a cut text answers 1 at its length, or what every longer text answers (`proofs/Cut`: `cut-law`)
abbrev pub CutLaw : Type 0
CutLaw = (room : ℕ) (s : List ℕ) → Longer room s

-- demand 1, 'the refusal number that document 01 names': which numbers and places a reading can answer (`proofs/Refusals`: `answered`)
abbrev pub AnswersNumbered : Type 0
AnswersNumbered = (room : ℕ) (s : List ℕ) → Answered (length s) (read_text room s)

-- 02, W-204, 'every caller passes it on': where reading answers 9 or 25, such a token stands at the place; and where a replacing call does, in its element (`proofs/Told`: `told-reading`, `told-call`)
abbrev pub ReadingsToldApart : Type 0
ReadingsToldApart = (room : ℕ) (s : List ℕ) → ToldApart (reading_number (read room s)) (drop (reading_place (read room s)) s)

abbrev pub CallsToldApart : Type 0
CallsToldApart = (room : ℕ) (kept : List ℕ) (es : List Element) (c : Call) (n p : ℕ) → call room kept es c ≡ refused n p → ToldApart n (drop p c.element)

-- demand 2, 'accepted exactly when the carried part of CLF 3.0 allows it and the room holds it': what is accepted keeps the rules (`proofs/Rules`: `accepted-rules`).
-- The other way, that every list which keeps them is read from some file, is `ExactlyAllowed` of `reads_back`
abbrev pub AcceptedKeepsRules : Type 0
AcceptedKeepsRules = (room : ℕ) (s : List ℕ) (l : List Element) → read room s ≡ accepted l → Allowed room l

-- list and room as an accepted reading leaves them are valid: 16 is not given for them (`proofs/Rules`: `accepted-valid`)
abbrev pub AcceptedIsValid : Type 0
AcceptedIsValid = (m : Room) (s : List ℕ) (l : List Element) → read (room_length m) s ≡ accepted l → is_valid (list_of (placed l)) (filled_with (all_numbers l) m) ≡ true

-- demand 3 on the definitions, from a look x into which any accepted file s is read, for any run of calls of both kinds (`proofs/Look`: `demand3-look`). Premise: each tried file is at most 16 MiB
abbrev pub Demand3OfLooks : Type 0
Demand3OfLooks = (x : Look) (s : List ℕ) (l : List Element) (calls : List Call) → read (room_length_of x) s ≡ accepted l → Small (read (room_length_of x)) (fresh s) calls → SameLook x s calls
