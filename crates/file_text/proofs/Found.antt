-- The list behind a child, by what a `match` tells of the child. Assumes nothing.
use mathlib.Core.Path.{◌≡◌, refl, sym, ap, ◌∙◌}
use Prim.Native.Nat.{◌+◌, ◌≤◌, ◌<◌}
use lib.ListN.{set}
use borrow.Author.Tests.{lt-ltb, le-ltb}
use Rattle.process_list.specs.declared.Node.{Node}
use Rattle.process_list.specs.declared.ProcessList.{ProcessList}
use Rattle.process_list.specs.List as Lists
use Rattle.file_text.specs.declared.FoundChild.{FoundChild}
use Rattle.file_text.specs.declared.FoundChild.TheVariants as Found
use Rattle.file_text.specs.Code.{list_with}

module _ (list : ProcessList) (x : FoundChild) (n : Node) where
  -- a node, and there is a place for it
  pub list-stored : x ≡ Found.Node n → list.count < 32 → record { count = list.count + 1; nodes = set list.nodes list.count n } ≡ list_with list x
  unfolding Lists.appended
  list-stored e h = sym (ap (λ (y : FoundChild). list_with list y) e ∙ rw (lt-ltb _ _ h))

  -- a node, and there is none
  pub list_full : x ≡ Found.Node n → 32 ≤ list.count → list ≡ list_with list x
  unfolding Lists.appended
  list_full e h = sym (ap (λ (y : FoundChild). list_with list y) e ∙ rw (le-ltb _ _ h))

-- any child but a node
pub list_same : (list : ProcessList) (x : FoundChild) → ((n : Node) → x ≡ Found.Node n → ⊥) → list ≡ list_with list x
list_same list (Found.Node n) h = absurd (h n refl)
list_same list Found.InputDescriptor h = refl
list_same list Found.OutputDescriptor h = refl
list_same list Found.Info h = refl
list_same list Found.Other h = refl
