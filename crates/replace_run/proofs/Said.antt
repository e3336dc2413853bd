-- Every run of calls whose numbers are below 2^32 is said by some slices: the elements one behind the other. Assumes nothing.
use mathlib.Core.Path.{◌≡◌, refl, sym, ap, ◌∙◌}
use mathlib.Core.Bool.{Bool, cond}
use mathlib.Core.List.{List, [], ◌∷◌, ◌++◌, map, append_assoc}
use Prim.Native.Nat.{ℕ, ◌+◌, ◌-◌}
use native.Mathlib.Omega.{arith}
use borrow.Author.Tests.{lt-ltb}
use lib.ListN.{length, length-append}
use lib.Seq.{take_at, drop_at}
use Rattle.process_list.specs.File.{number_limit}
use Rattle.look.specs.Replacing.{Numbering, unnumbered, numbered, Call}
use Rattle.replace_run.specs.Runs.{call_part, numbering_of, marked_call, calls_from, Below, AllBelow, EveryRunSaid}

-- ---- the slices

mark_of : Numbering → ℕ
mark_of unnumbered = number_limit
mark_of (numbered n) = n

bytes_of : List Call → List ℕ
bytes_of [] = []
bytes_of (c ∷ cs) = c.element ++ bytes_of cs

ends_from : ℕ → List Call → List ℕ
ends_from a [] = []
ends_from a (c ∷ cs) = (a + length c.element) ∷ ends_from (a + length c.element) cs

nodes_of : List Call → List ℕ
nodes_of = map (λ (c : Call). c.node)

marks_of : List Call → List ℕ
marks_of = map (λ (c : Call). mark_of c.numbering)

-- ---- they say the calls

mark-back : (n : Numbering) → Below n → numbering_of (mark_of n) ≡ n
unfolding mark_of
mark-back unnumbered b = refl
mark-back (numbered n) b = ap (λ (t : Bool). cond t (numbered n) unnumbered) (lt-ltb n number_limit b)

-- the bytes e behind others
part-back : (front e rest : List ℕ) → call_part (front ++ (e ++ rest)) (length front) (length front + length e) ≡ e
unfolding call_part
part-back front e rest =
    let n : length front + length e - length front ≡ length e = omega arith in
    rw (n, drop_at front (e ++ rest) (length front) refl) (take_at e rest (length e) refl)

said-from : (front : List ℕ) (cs : List Call) → AllBelow cs
    → calls_from (length front) (nodes_of cs) (marks_of cs) (ends_from (length front) cs) (nodes_of cs) (nodes_of cs) (front ++ bytes_of cs) ≡ cs
unfolding calls_from nodes_of marks_of ends_from bytes_of
said-from front [] b = refl
said-from front (c ∷ cs) b =
    let e : List ℕ = c.element in
    let n : length front + length e ≡ length (front ++ e) = simp length-append in
    let s : front ++ (e ++ bytes_of cs) ≡ (front ++ e) ++ bytes_of cs = sym (append_assoc front e (bytes_of cs)) in
    let first : marked_call c.node (mark_of c.numbering) (call_part (front ++ (e ++ bytes_of cs)) (length front) (length front + length e)) ≡ c =
    λ i. record { node = c.node; numbering = mark-back c.numbering b.0 i; element = part-back front e (bytes_of cs) i } in
    let later : calls_from (length front + length e) (nodes_of cs) (marks_of cs) (ends_from (length front + length e) cs) (nodes_of cs) (nodes_of cs) (front ++ (e ++ bytes_of cs)) ≡ cs =
    ap (λ (a : ℕ). calls_from a (nodes_of cs) (marks_of cs) (ends_from a cs) (nodes_of cs) (nodes_of cs) (front ++ (e ++ bytes_of cs))) n
    ∙ ap (calls_from (length (front ++ e)) (nodes_of cs) (marks_of cs) (ends_from (length (front ++ e)) cs) (nodes_of cs) (nodes_of cs)) s
    ∙ said-from (front ++ e) cs b.1 in
    λ i. first i ∷ later i

pub every-run-said : EveryRunSaid
every-run-said calls b = record {
  ks = nodes_of calls;
  marks = marks_of calls;
  ends = ends_from 0 calls;
  numbers = nodes_of calls;
  places = nodes_of calls;
  elements = bytes_of calls;
  is = said-from [] calls b;
}
