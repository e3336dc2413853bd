-- Demand 3 (document 01, Demand 3's file; document 02, W-203 and W-208): a replacing call by the file, runs of calls of both kinds, and that they are those by the list alone.
use Rattle.std.specs.Prelude.{◌≡◌, cond, List, [], ◌∷◌, ◌++◌, ℕ, ◌+◌, ◌-◌, ◌≤◌, eqb, ltb, length, take, drop}
use Rattle.process_list.specs.List.{Element}
use Rattle.grammar.specs.Parse.{Out, done, fault, cut}
use Rattle.clf.specs.List.{node, Document, document}
use Rattle.clf.specs.Places.{node_span}
use Rattle.clf.specs.Reading.{is_numbered, Reading, accepted, faulty, unfit, most_bytes, nodes_among, place_in}
use Rattle.look.specs.Replacing.{element, Replacing, replaced, refused, list_after, Call, is_late, kept_at, call, kept_after}
use Rattle.refusals.specs.Refusals as Refusal

-- what a reading answers, in the terms of a call
abbrev pub as_replacing : Reading → Replacing
as_replacing (accepted l) = replaced l
as_replacing (faulty n p) = refused n p
as_replacing (unfit n p) = refused n p

-- ---- by the file: 'Demand 3's file'

-- 'that file with the new element's bytes where node k's stood, from `<` to last `>`'
abbrev pub spliced : List ℕ → ℕ × ℕ → List ℕ → List ℕ
spliced s w e = take w.0 s ++ (e ++ drop (w.0 + w.1) s)

-- what a call does: it answers, and tries no file; or it tries one, in which node k starts at a place
pub data Attempt : Type 0 where
  answers : Replacing → Attempt
  tries : ℕ → List ℕ → Attempt

abbrev pub trying : List ℕ → ℕ × ℕ → List ℕ → Attempt
trying s w e = tries w.0 (spliced s w e)

-- 'Where the rules above give [.., ] 1 or 20, it answers that and tries none'
abbrev pub attempt_element : List ℕ → ℕ × ℕ → List ℕ → Out Element → Attempt
attempt_element s w e (done n []) = trying s w e
attempt_element s w e (done n (b ∷ r)) = answers (refused Refusal.not_one_node (place_in e (b ∷ r)))
attempt_element s w e (fault j r) = cond (eqb j Refusal.not_one_node) (answers (refused Refusal.not_one_node (place_in e r))) (trying s w e)
attempt_element s w e cut = answers (refused Refusal.cut_short (length e))

-- 'Where the rules above give 19, 4, .., it answers that and tries none'; between them, 'like 1 and 20, 28 tries no file and claims nothing about one'. `kept` are the numbers that are kept
-- beside the file.
-- A file whose text is at fault or cut is no accepted file, and its list no reading: 16. From an accepted file on, no file of a run is such a one
abbrev pub attempt_in : List ℕ → List ℕ → Call → Out Document → Attempt
attempt_in s kept c (done d r) =
    cond (is_numbered c.node (length (nodes_among d.parts)))
    (cond (is_late (kept_at kept c.node) c.numbering) (answers (refused Refusal.late 0))
    (cond (ltb most_bytes (length c.element)) (answers (refused Refusal.too_long 0)) (attempt_element s (node_span s (c.node - 1)) c.element (element.run c.element))))
    (answers (refused Refusal.no_such_node 0))
attempt_in s kept c (fault j r) = answers (refused Refusal.no_reading 0)
attempt_in s kept c cut = answers (refused Refusal.no_reading 0)

unfoldable pub attempt : List ℕ → List ℕ → Call → Attempt
attempt s kept c = attempt_in s kept c (document.run s)

-- 'else it answers as reading the tried file into room of the same length does: 0, and the tried file takes over; 10 or 13, with reading's place;
-- another number, with reading's place less the start of node k. Refused, the old file stays'. 23 has reading's place too, 'being treated as the depth refusal is' (02, W-203)
abbrev pub answered_by : ℕ → List ℕ → List ℕ → Reading → Replacing × List ℕ
answered_by at s t (accepted l) = (replaced l, t)
answered_by at s t (faulty n p) = (refused n (p - at), s)
answered_by at s t (unfit n p) = (refused n p, s)

abbrev pub by_attempt : (List ℕ → Reading) → List ℕ → Attempt → Replacing × List ℕ
by_attempt reads s (answers a) = (a, s)
by_attempt reads s (tries at t) = answered_by at s t (reads t)

-- demand 3's file, and beside it the numbers kept with its nodes, which 'files don't carry'
pub record FileState : Type 0 where
  pub file : List ℕ
  pub kept : List ℕ

-- a call by the file, for a way of reading: its answer, and file and kept numbers after it
abbrev pub file_call : (List ℕ → Reading) → FileState → Call → Replacing × FileState
file_call reads f c =
    let a : Replacing × List ℕ = by_attempt reads f.file (attempt f.file f.kept c) in
    (a.0, record { file = a.1; kept = kept_after f.kept c a.0 })

-- the nodes of a list as elements, and the numbers kept with them
pub record NodeState : Type 0 where
  pub elements : List Element
  pub kept : List ℕ

-- the nodes after a call, by its answer
abbrev pub nodes_after : NodeState → Call → Replacing → NodeState
nodes_after h c a = record { elements = list_after h.elements a; kept = kept_after h.kept c a }

-- a call by the list: its answer, and the nodes after it
abbrev pub list_call : ℕ → NodeState → Call → Replacing × NodeState
list_call room h c = let a = call room h.kept h.elements c in (a, nodes_after h c a)

-- ---- runs of calls: the answers, and the file or the nodes after them

abbrev pub file_run : (List ℕ → Reading) → FileState → List Call → List Replacing × FileState
file_run reads f [] = ([], f)
file_run reads f (c ∷ calls) =
    let a : Replacing × FileState = file_call reads f c in
    let z : List Replacing × FileState = file_run reads a.1 calls in
    (a.0 ∷ z.0, z.1)

abbrev pub list_run : ℕ → NodeState → List Call → List Replacing × NodeState
list_run room h [] = ([], h)
list_run room h (c ∷ calls) =
    let a : Replacing × NodeState = list_call room h c in
    let z : List Replacing × NodeState = list_run room a.1 calls in
    (a.0 ∷ z.0, z.1)

-- 'another number, with reading's place less the start of node k': such a fault stands in the element, so reading's place is not before that start, and the difference is none below zero
abbrev pub NotBefore : ℕ → Reading → Type 0
NotBefore at (accepted l) = Unit {0}
NotBefore at (faulty n p) = at ≤ p
NotBefore at (unfit n p) = Unit {0}

abbrev pub InElement : (List ℕ → Reading) → Attempt → Type 0
InElement reads (answers a) = Unit {0}
InElement reads (tries at t) = NotBefore at (reads t)

abbrev pub AllInElement : (List ℕ → Reading) → FileState → List Call → Type 0
AllInElement reads f [] = Unit {0}
AllInElement reads f (c ∷ calls) = InElement reads (attempt f.file f.kept c) × AllInElement reads (file_call reads f c).1 calls

-- 'Premise: each file so tried is at most 16 MiB'
abbrev pub SmallAttempt : Attempt → Type 0
SmallAttempt (answers a) = Unit {0}
SmallAttempt (tries at t) = length t ≤ most_bytes

abbrev pub Small : (List ℕ → Reading) → FileState → List Call → Type 0
Small reads f [] = Unit {0}
Small reads f (c ∷ calls) = SmallAttempt (attempt f.file f.kept c) × Small reads (file_call reads f c).1 calls

-- DEMAND 3 by the list alone, from a file whose reading has the elements es, with any kept numbers: 'Each gets a node number, a new element, and the list .. as the last call left them, never the
-- file'. The answers of all calls are those that reading the tried files gives; and the elements after the run are those of 'a fresh reading .. of the file with every accepted element in place'
pub record SameRun (room : ℕ) (reads : List ℕ → Reading) (f : FileState) (es : List Element) (calls : List Call) : Type 0 where
  pub answers : (file_run reads f calls).0 ≡ (list_run room (record { elements = es; kept = f.kept }) calls).0
  pub list : as_replacing (reads (file_run reads f calls).1.file) ≡ replaced (list_run room (record { elements = es; kept = f.kept }) calls).1.elements
  pub kept : (file_run reads f calls).1.kept ≡ (list_run room (record { elements = es; kept = f.kept }) calls).1.kept
  pub places : AllInElement reads f calls
