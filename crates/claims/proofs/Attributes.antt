-- What each start tag that is read is: every attribute's text passed what the tag asks of it. So the id of every node that is read is allowed (document 02, W-203). Assumes nothing.
use mathlib.Core.Path.{◌≡◌, refl, sym, ◌∙◌, subst}
use mathlib.Core.Bool.{Bool, true, false, cond}
use mathlib.Core.List.{List, [], ◌∷◌}
use Prim.Native.Nat.{ℕ}
use native.Mathlib.Omega.{arith}
use lib.Dec.{eqb}
use Rattle.valid.proofs.Readings.{same-only}
use Rattle.grammar.specs.Grammar.{G, judge, eat, seq}
use Rattle.xml.specs.Bytes.{bytes, same, is_space, is_quote, greater_than, slash, equals}
use Rattle.xml.specs.Xml.{byte, word, name, spaces, text_to, Attribute, text_of, Rules, name_fault, attribute, TagState, Tag, tag_byte, start_tag}
use Rattle.ids.specs.Ids.{id_right, id_allowed}
use Rattle.ids.proofs.Laws.{right-length, allowed-some}
use Rattle.clf.specs.Nodes.{node_texts}
use Rattle.claims.proofs.Always.{Holds, holds-all, holds-ret, holds-bad, holds-cond, holds-look, holds-judge, holds-seq, holds_then, TurnHolds, holds-loop}
use Rattle.claims.proofs.Numbers.{Each, each_more}

-- ---- every tag

module _ (rules : Rules) where
  -- no fault was found in the text
  abbrev Passed : Attribute → Type 0
  Passed a = rules.texts a.name a.text ≡ 0

  attribute-holds : (l : List Attribute) → Holds Passed (attribute rules l)
  unfolding attribute
  attribute-holds l =
      holds_then (judge (name_fault rules l) name) (λ w. holds_then spaces (λ u. holds_then (byte equals 2) (λ u. holds_then spaces
      (λ u. holds_then (judge (λ b. cond (is_quote b) 0 2) eat)
      (λ q. holds-seq (λ x. rules.texts w x.1 ≡ 0)
      (holds-judge (λ x. Unit {0}) (λ x. rules.texts w x.1) (holds-all (text_to q) (λ x. tt)) (λ x u z. z))
      (λ x z. holds_then eat (λ u. holds-ret z)))))))

  part-holds : (st : TagState) → Each Passed st.attributes → (b : ℕ)
      → Holds (TurnHolds (λ v. Each Passed v.attributes) (λ t. Each Passed t.attributes)) (tag_byte rules st b)
  part-holds st i b =
      holds-cond (is_space b) (λ z. holds_then eat (λ u. holds-ret i))
      (λ z. holds-cond (eqb b greater_than) (λ z. holds_then (judge (λ x. rules.opened st.attributes) eat) (λ u. holds-ret i))
      (λ z. holds-cond (eqb b slash) (λ z. holds_then (judge (λ x. rules.emptied st.attributes) (word (bytes "/>") 2)) (λ u. holds-ret i))
      (λ z. holds-cond st.spaced
      (λ z. holds-seq Passed (attribute-holds st.attributes) (λ a k. holds-ret (each_more Passed st.attributes (a ∷ []) i (k, tt))))
      (λ z. holds-bad 2))))

  tag-holds : Holds (λ tag. Each Passed tag.attributes) (start_tag rules)
  unfolding start_tag
  tag-holds = holds-loop (λ v. Each Passed v.attributes) (λ t. Each Passed t.attributes) (λ st i. holds-look (part-holds st i)) tt

-- ---- the tag of a node, whatever else it asks of its texts

-- a node with these attributes has no id, or a right one
abbrev pub IdAllowed : List Attribute → Type 0
IdAllowed l = id_allowed (text_of (bytes "id") l) ≡ true

module _ (rest : List ℕ → List ℕ → ℕ) where
  id_right_lem : (t : List ℕ) → node_texts rest (bytes "id") t ≡ 0 → id_allowed t ≡ true
  unfolding same
  id_right_lem t z = go (id_right 32 t) refl z
    where
      go : (v : Bool) → id_right 32 t ≡ v → ◌≡◌ {A = ℕ} (cond v 0 24) 0 → id_allowed t ≡ true
      go true e y = sym (allowed-some t (right-length 32 t e).0) ∙ e
      go false e y = absurd (omega arith)

  id-allowed : (l : List Attribute) → Each (λ a. node_texts rest a.name a.text ≡ 0) l → IdAllowed l
  unfolding text_of id_allowed
  id-allowed [] h = refl
  id-allowed (a ∷ l) h = go (same (bytes "id") a.name) refl (id-allowed l h.1)
    where
      go : (v : Bool) → same (bytes "id") a.name ≡ v → IdAllowed l → id_allowed (cond v a.text (text_of (bytes "id") l)) ≡ true
      go true e i = id_right_lem a.text (subst (λ (w : List ℕ). node_texts rest w a.text ≡ 0) (sym (same-only (bytes "id") a.name e)) h.0)
      go false e i = i

  node-tag : (rules : Rules) → rules.texts ≡ node_texts rest → Holds (λ tag. IdAllowed tag.attributes) (start_tag rules)
  node-tag rules q = record {
    value = λ s tag r e.
        id-allowed tag.attributes (subst (λ (f : List ℕ → List ℕ → ℕ). Each (λ a. f a.name a.text ≡ 0) tag.attributes) q ((tag-holds rules).value s tag r e));
  }

  -- a fact of each node that is read, where what follows the start tag has it for every tag whose id is allowed
  pub node_by : {A : Type 0} {Q : A → Type 0} {f : Tag → G A} (rules : Rules) → rules.texts ≡ node_texts rest
      → ((tag : Tag) → IdAllowed tag.attributes → Holds Q (f tag)) → Holds Q (seq (start_tag rules) f)
  node_by rules q h = holds-seq (λ tag. IdAllowed tag.attributes) (node-tag rules q) h
