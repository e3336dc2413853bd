-- An element alone, and the same bytes as an item of ProcessList: cut, 20, or one answer. Assumes nothing.
use mathlib.Core.Path.{◌≡◌, refl, ap, ◌∙◌, subst}
use mathlib.Core.Bool.{Bool, true, false}
use mathlib.Core.List.{List, [], ◌∷◌, ◌++◌, append-nil}
use Prim.Native.Nat.{ℕ}
use lib.Dec.{eqb}
use borrow.Author.Tests.{eqb-true}
use Rattle.grammar.specs.Parse.{done, fault, then_out, ret_p, span_p}
use Rattle.grammar.specs.Laws.{nope}
use Rattle.xml.specs.Bytes.{bytes, same, is_letter, is_digit, is_name_byte}
use Rattle.xml.specs.Among.{among}
use Rattle.xml.specs.AmongLaws.{all_name, all_first, EachName, AmongView, among-view, among-fault}
use Rattle.xml.specs.Xml.{name}
use Rattle.clf.specs.Nodes.{NodeName, node_names, node_name, node_fault, node_body}
use Rattle.clf.specs.List.{node, Flags, child_fault, child_body}
use Rattle.look.specs.Replacing.{start}

-- ---- names

module _ (b : ℕ) (r : List ℕ) (ends : is_name_byte b ≡ false) where
  span-name : (w : List ℕ) → all_name w ≡ true → span_p is_name_byte (w ++ b ∷ r) ≡ done w (b ∷ r)
  span-name [] h = rw ends
  span-name (c ∷ w) h = let k = all_first c w h in rw (k.0, span-name w k.1)

  pub name-is : (c : ℕ) (w : List ℕ) → is_letter c ≡ true → all_name (c ∷ w) ≡ true → name.run (c ∷ w ++ b ∷ r) ≡ done (c ∷ w) (b ∷ r)
  unfolding name
  name-is c w h k = rw h (span-name (c ∷ w) k)

pub letter-not : (c x : ℕ) → is_letter c ≡ true → is_letter x ≡ false → eqb c x ≡ false
letter-not c x h k = go (eqb c x) refl
  where
    go : (v : Bool) → eqb c x ≡ v → v ≡ false
    go true q = let y : c ≡ x = eqb-true c x q in let z : is_letter c ≡ false = ap is_letter y ∙ k in nope cc
    go false q = refl

-- ---- the seven names

abbrev FirstLetter : List ℕ → Type 0
FirstLetter [] = ⊥
FirstLetter (c ∷ w) = is_letter c ≡ true

-- a node's name, and what the list makes of an element of this name
pub record NodeWord (w : List ℕ) (n : NodeName) : Type 0 where
  pub letter : FirstLetter w
  pub named : all_name w ≡ true
  pub faults : (st : Flags) → child_fault st w ≡ node_fault n
  pub body : (s : List ℕ) → (child_body w).run s ≡ then_out ((node_body n).run s) (λ m. ret_p (node m))

node-words : EachName NodeWord node_names
unfolding is_letter is_digit is_name_byte child_fault child_body node_name same
node-words = (
  record { letter = refl; named = refl; faults = λ st. refl; body = λ s. refl },
  (
    record { letter = refl; named = refl; faults = λ st. refl; body = λ s. refl },
    (
      record { letter = refl; named = refl; faults = λ st. refl; body = λ s. refl },
      (
        record { letter = refl; named = refl; faults = λ st. refl; body = λ s. refl },
        (
          record { letter = refl; named = refl; faults = λ st. refl; body = λ s. refl },
          (
            record { letter = refl; named = refl; faults = λ st. refl; body = λ s. refl },
            (
              record { letter = refl; named = refl; faults = λ st. refl; body = λ s. refl },
              tt,
            ),
          ),
        ),
      ),
    ),
  ),
)

-- ---- the start

abbrev pub StartOf : List ℕ → Type 0
StartOf s = AmongView NodeWord (λ w n p. p.named) (bytes "<") 20 node_names s

pub start_of : (s : List ℕ) → StartOf s
start_of s = among-view NodeWord (λ w n p. p.named) (bytes "<") 20 node_names node-words s

-- 20, with nothing behind the bytes
pub start-20 : (s : List ℕ) → ((t : List ℕ) → among (bytes "<") 20 node_names (s ++ t) ≡ fault 20 (s ++ t)) → start.run s ≡ fault 20 s
unfolding start
start-20 s q = subst (λ (x : List ℕ). among (bytes "<") 20 node_names x ≡ fault 20 x) (append-nil s) (q [])

-- every fault of a start is 20
pub start-faults : (s : List ℕ) (k : ℕ) (r : List ℕ) → start.run s ≡ fault k r → k ≡ 20
unfolding start
start-faults s k r e = among-fault (bytes "<") 20 node_names s k r e
