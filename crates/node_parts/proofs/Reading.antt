-- Answers one after the other, start tags and what follows them, and nodes, by their parts. Assumes nothing.
use mathlib.Core.Path.{◌≡◌, refl, ap, ◌∙◌}
use mathlib.Core.List.{List, []}
use mathlib.Core.Bool.{false}
use Prim.Native.Nat.{ℕ}
use native.Mathlib.Omega.{arith}
use lib.ListN.{length}
use Rattle.grammar.specs.Parse.{Out, Parser, then_out, bind_p, ret_p}
use Rattle.xml.specs.Xml.{Tag, Rules, start_tag}
use Rattle.xml.specs.Code.{Inside, Reads, no_value, Failed}
use Rattle.xml.specs.Code.{Scan}
use Rattle.std.specs.Prelude.{Result, Ok, Err}
use Rattle.xml.specs.declared.Stop.{Stop}
use Rattle.xml.specs.declared.Stop.TheVariants.{Fault, Cut}
use Rattle.room.specs.Room.{Room, cleared_from}
use Rattle.tags.specs.Rules.{rules_of}
use Rattle.tags.specs.Code.{attributes_of}
use Rattle.tags.specs.Ended.{behind_tag, TagRead, tag_of, tag-reads}
use Rattle.tags.specs.declared.StartTag.{StartTag}
use Rattle.tags.specs.declared.TagKind.{TagKind}
use Rattle.tags.specs.declared.Attributes.{Attributes}
use Rattle.values.specs.Code.{Laid, NumbersRead, kept_or_cleared}
use Rattle.values.proofs.Stored.{cleared-twice}
use Rattle.decimal.specs.declared.Decimal.{Decimal}
use Rattle.clf.specs.Nodes as Nodes
use Rattle.process_list.specs.List.{Element, numbers_of, node_of}
use Rattle.process_list.specs.declared.Kind.{Kind}
use Rattle.node_parts.specs.Code.{finished_node, NumbersIn, end_of, NodeReads}
use Rattle.node_parts.specs.Held.{ReadsTo, NodeIs, NodeStored}
use Rattle.node_parts.specs.declared.NodeRead.{NodeRead}

-- the value of a start tag where there is none
abbrev pub no_tag : ℕ → Tag
no_tag e = record { attributes = []; empty = false }

-- a start tag that ends before q
pub tag-behind : (rules : Rules) (kind : TagKind) → rules_of kind ≡ rules → (s : List ℕ) (at : ℕ) (t : StartTag) (q : ℕ) → q ≡ behind_tag t.end → TagRead kind s at (Ok t)
    → Reads 1 (start_tag rules).run (λ e. tag_of s t) s at (Ok q)
tag-behind rules kind r s at t q e v = rw e (tag-reads rules kind r s at t v)

-- ---- one after the other

module _ {A B : Type 0} (p : Parser A) (s : List ℕ) (at : ℕ) (R : B → Type 0) (F : Type 0) where
  -- another value, made of the one that was read
  pub to_map : (f : A → B) (r : Scan) (Q : A → Type 0) → ((a : A) → Q a → R (f a)) → ReadsTo p s at r Q F → ReadsTo (bind_p p (λ a. ret_p (f a))) s at r R F
  to_map f (Ok e) Q g v = record {
    value = f v.value;
    reads = record { out = ap (λ (o : Out A). then_out o (λ a. ret_p (f a))) v.reads.out; inside = v.reads.inside };
    left = g v.value v.left;
  }
  to_map f (Err (Fault k q)) Q g v = record {
    value = f v.value;
    reads = record { out = ap (λ (o : Out A). then_out o (λ a. ret_p (f a))) v.reads.out; inside = v.reads.inside };
    left = v.left;
  }
  to_map f (Err Cut) Q g v = record {
    value = f v.value;
    reads = record { out = ap (λ (o : Out A). then_out o (λ a. ret_p (f a))) v.reads.out; inside = tt };
    left = v.left;
  }

  module _ (f : A → Parser B) (value : ℕ → A) where
    inside-then : (e : ℕ) → Inside 1 s at (Ok e) → (r : Scan) → Inside 1 s e r → Inside 1 s at r
    inside-then e i (Ok e₂) j = (omega arith, j.1)
    inside-then e i (Err (Fault k q)) j = (omega arith, j.1)
    inside-then e i (Err Cut) j = tt

    pub to-then : (e : ℕ) (r : Scan) → Reads 1 p value s at (Ok e) → ReadsTo (f (value e)) s e r R F → ReadsTo (bind_p p f) s at r R F
    to-then e r v w = record {
      value = w.value;
      reads = record { out = w.reads.out ∙ ap (λ (o : Out A). then_out o f) v.out; inside = inside-then e v.inside r w.reads.inside };
      left = w.left;
    }

    pub to-failed : (r : Scan) → Failed r → B → F → Reads 1 p value s at r → ReadsTo (bind_p p f) s at r R F
    to-failed (Ok e) h b z v = absurd h
    to-failed (Err (Fault k q)) h b z v = record { value = b; reads = record { out = ap (λ (o : Out A). then_out o f) v.out; inside = v.inside }; left = z }
    to-failed (Err Cut) h b z v = record { value = b; reads = record { out = ap (λ (o : Out A). then_out o f) v.out; inside = tt }; left = z }

-- another fact where there is no next place
pub to_part : {A : Type 0} (p : Parser A) (s : List ℕ) (at : ℕ) (r : Scan) (R : A → Type 0) (F F₂ : Type 0) → (F → F₂) → ReadsTo p s at r R F → ReadsTo p s at r R F₂
to_part p s at (Ok e) R F F₂ g v = record { value = v.value; reads = v.reads; left = v.left }
to_part p s at (Err x) R F F₂ g v = record { value = v.value; reads = v.reads; left = g v.left }

-- ---- numbers and texts

module _ (p : Parser (List Decimal)) (s : List ℕ) (at n base : ℕ) (m₀ m₁ : Room) where
  pub numbers-to : (r : Scan) → NumbersRead n p s at base r m₀ m₁ → ReadsTo p s at r (NumbersIn n base m₀ m₁) (m₁ ≡ cleared_from base m₀)
  numbers-to (Ok e) v = record { value = v.xs; reads = record { out = v.out; inside = v.inside }; left = record { counted = v.counted; room = v.room } }
  numbers-to (Err (Fault k q)) v = record { value = v.xs; reads = record { out = v.out; inside = v.inside }; left = v.room }
  numbers-to (Err Cut) v = record { value = v.xs; reads = record { out = v.out; inside = tt }; left = v.room }

-- a text-only element, which is passed over
pub text-to : (p : Parser (Unit {0})) (s : List ℕ) (at : ℕ) (r : Scan) (F : Type 0) → F → Reads 1 p no_value s at r → ReadsTo p s at r (λ u. Unit {0}) F
text-to p s at (Ok e) F f v = record { value = tt; reads = v; left = tt }
text-to p s at (Err x) F f v = record { value = tt; reads = v; left = f }

-- ---- nodes

-- the node of these attributes, which ends at e
pub finished-is : (s : List ℕ) (base : ℕ) (m₀ m₁ : Room) (attributes : Attributes) (e : ℕ) (kind : Kind) (ns : List Decimal) → length ns ≡ numbers_of kind → Laid base ns m₀ m₁
    → NodeIs base m₀ m₁ (record { end = e; node = finished_node s attributes kind }) (Nodes.element_with (attributes_of s attributes) kind ns)
unfolding finished_node node_of
finished-is s base m₀ m₁ attributes e kind ns n r = record { node = refl; all = n; room = r }

module _ (p : Parser Element) (s : List ℕ) (at base : ℕ) (m₀ m₁ : Room) where
  -- a node whose room is cleared where there is none
  pub node-kept : (r : Result NodeRead Stop) (m₂ : Room) → NodeStored p s at base r m₀ m₁ → m₂ ≡ kept_or_cleared base (end_of r) m₁ → NodeReads p s at base r m₀ m₂
  node-kept (Ok n) m₂ v q = record { value = v.value; out = v.reads.out; inside = v.reads.inside; node = v.left.node; all = v.left.all; room = q ∙ v.left.room }
  node-kept (Err (Fault k i)) m₂ v q = record { value = v.value; out = v.reads.out; inside = v.reads.inside; node = tt; all = tt; room = q ∙ v.left }
  node-kept (Err Cut) m₂ v q = record { value = v.value; out = v.reads.out; inside = v.reads.inside; node = tt; all = tt; room = q ∙ v.left }

  -- the same before another clears it once more
  pub node-stored : (r : Result NodeRead Stop) → NodeReads p s at base r m₀ m₁ → NodeStored p s at base r m₀ m₁
  node-stored (Ok n) v = record { value = v.value; reads = record { out = v.out; inside = v.inside }; left = record { node = v.node; all = v.all; room = v.room } }
  node-stored (Err (Fault k i)) v = record { value = v.value; reads = record { out = v.out; inside = v.inside }; left = cleared-twice base m₀ m₁ v.room }
  node-stored (Err Cut) v = record { value = v.value; reads = record { out = v.out; inside = v.inside }; left = cleared-twice base m₀ m₁ v.room }
