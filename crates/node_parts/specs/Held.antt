-- The content of an element that holds elements, as the code reads it: child by child, with a state of its own. For any holder.
use Rattle.std.specs.Prelude.{◌≡◌, List, ℕ, zero, suc, ◌+◌, ◌≤◌, length, drop}
use Rattle.grammar.specs.Parse.{Out, fault, Parser}
use Rattle.xml.specs.Elements.{Holder, held}
use Rattle.xml.specs.Code.{part, scan_out, Inside, Reads}
use Rattle.xml.specs.Code.{Scan}
use Rattle.std.specs.Prelude.{Result, Ok, Err, IfOk}
use Rattle.xml.specs.declared.Stop.{Stop}
use Rattle.process_list.specs.List.{Element, node_of, numbers_of}
use Rattle.room.specs.Room.{Room, cleared_from}
use Rattle.values.specs.Code.{Laid}
use Rattle.node_parts.specs.Code.{end_of}
use Rattle.node_parts.specs.declared.NodeRead.{NodeRead}

-- the first fact where the answer is a next place, else the second
abbrev pub Went : Scan → Type 0 → Type 0 → Type 0
Went (Ok e) A B = A
Went (Err x) A B = B

-- a child by its name's fault: 0 is none, and it reads as its body from behind its name on
abbrev pub child_out : {S : Type 0} → ℕ → Parser S → List ℕ → List ℕ → Out S
child_out zero p r s = p r
child_out (suc k) p r s = fault (suc k) s

module _ {S : Type 0} (h : Holder S) where
  -- the child whose `<` stands at `at` and whose name ends at e reads with the answer r, from the state st to the state st'
  pub record Child (st : S) (s : List ℕ) (at e : ℕ) (st' : S) (r : Scan) : Type 0 where
    pub out : scan_out (λ q. st') s r ≡ child_out (h.fault st (part s (at + 1) e)) (h.body st (part s (at + 1) e)).run (drop e s) (drop at s)
    pub inside : Inside 1 s at r

  -- the same, to some state, of which R holds; F holds where there is no next place
  pub record Goes (st : S) (s : List ℕ) (at e : ℕ) (r : Scan) (R : S → Type 0) (F : Type 0) : Type 0 where
    pub to : S
    pub child : Child st s at e to r
    pub left : Went r (R to) F

  -- the content has been read up to i, and R holds of the state there
  pub record HeldAt (st₀ : S) (s : List ℕ) (at i : ℕ) (R : S → Type 0) : Type 0 where
    pub st : S
    pub low : at ≤ i
    pub same : (held h st₀).run (drop at s) ≡ (held h st).run (drop i s)
    pub stands : R st

-- the answer r is p's, with some value, of which R holds; F holds where there is no next place
pub record ReadsTo {S : Type 0} (p : Parser S) (s : List ℕ) (at : ℕ) (r : Scan) (R : S → Type 0) (F : Type 0) : Type 0 where
  pub value : S
  pub reads : Reads 1 p (λ q. value) s at r
  pub left : Went r (R value) F

-- ---- a node before the room is cleared

-- cleared from `base` on, the room is as it was before, cleared so
abbrev pub SameCleared : ℕ → Room → Room → Type 0
SameCleared base m₀ m₁ = cleared_from base m₁ ≡ cleared_from base m₀

-- the node n is v, whose numbers stand in the room from `base` on
pub record NodeIs (base : ℕ) (m₀ m₁ : Room) (n : NodeRead) (v : Element) : Type 0 where
  pub node : n.node ≡ node_of v
  pub all : length v.numbers ≡ numbers_of v.kind
  pub room : Laid base v.numbers m₀ m₁

-- a node read from `at` on; where there is none, nothing but the room from `base` on has changed
abbrev pub NodeStored : Parser Element → List ℕ → ℕ → ℕ → Result NodeRead Stop → Room → Room → Type 0
NodeStored p s at base r m₀ m₁ = ReadsTo p s at (end_of r) (λ v. IfOk r (λ n. NodeIs base m₀ m₁ n v)) (SameCleared base m₀ m₁)
