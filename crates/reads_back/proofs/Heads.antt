-- The declaration and the start tag of ProcessList, as they are written under an id. Assumes nothing.
use mathlib.Core.Path.{◌≡◌, refl, ap, ◌∙◌}
use mathlib.Core.Bool.{true, false}
use mathlib.Core.List.{List, [], ◌∷◌, ◌++◌}
use Prim.Native.Nat.{ℕ}
use native.Mathlib.Omega.{arith}
use lib.ListN.{length}
use borrow.Author.Tests.{ne_eqb}
use Rattle.valid.specs.Valid.{every}
use Rattle.grammar.specs.Parse.{Out, done, Parser, Turn, then_out, ret_p}
use Rattle.grammar.specs.Laws.{loop-again, loop-last}
use Rattle.grammar.specs.Grammar.{blame, seq, ret}
use Rattle.xml.specs.Bytes.{bytes, same, is_letter, is_digit, is_name_byte}
use Rattle.xml.specs.Xml.{word, Attribute, is_named, name_fault, start_tag, stray_end}
use Rattle.xml.specs.Elements.{Part, between}
use Rattle.clf.specs.List.{declaration, list_rules, root_fault, to_root, prologue, head}
use Rattle.ids.specs.Ids.{id_right}
use Rattle.ids.proofs.Laws.{right-length}
use Rattle.reads_back.proofs.Texts.{is_name}
use Rattle.reads_back.proofs.Tags.{quoted, tag-from, tag-ends, tag-more}
use Rattle.reads_back.proofs.Ids.{id-name, id-quoted}
use Rattle.reads_back.proofs.Held.{between-line, between-child}
use Rattle.reads_back.proofs.Tables.{space-name}
use Rattle.reads_back.proofs.Items.{list-name}

-- ---- the declaration, LF, `<ProcessList`

declared : (s : List ℕ) → (blame (word declaration 3)).run (declaration ++ s) ≡ done tt s
declared s = refl

abbrev before_root : Unit {0} → Parser (Turn (Unit {0}) (Unit {0}))
before_root st = (seq (between stray_end root_fault (λ w. ret w)) (λ p. ret (to_root p))).run

root-fine : root_fault (bytes "ProcessList") ≡ 0
unfolding same
root-fine = refl

prologue-reads : (t : List ℕ) → prologue.run (bytes "\n<ProcessList" ++ 32 ∷ t) ≡ done tt (32 ∷ t)
unfolding prologue
prologue-reads t =
    let s : List ℕ = bytes "<ProcessList" ++ 32 ∷ t in
    loop-again before_root tt (10 ∷ s) tt s
    (ap (λ (o : Out (Part (List ℕ))). then_out o (λ p. ret_p (to_root p))) (between-line stray_end root_fault (λ w. ret w) s)) (omega arith)
    ∙ loop-last before_root tt s tt (32 ∷ t)
    (ap (λ (o : Out (Part (List ℕ))). then_out o (λ p. ret_p (to_root p)))
    (between-child stray_end root_fault (λ w. ret w) (bytes "ProcessList") 32 t (bytes "ProcessList") (32 ∷ t) list-name space-name root-fine refl))

-- ---- its attributes

version-name : is_name (bytes "compCLFversion") ≡ true
unfolding is_name is_name_byte is_letter is_digit every
version-name = refl

version-quoted : quoted (bytes "3.0") ≡ true
unfolding every
version-quoted = refl

version-fine : list_rules.texts (bytes "compCLFversion") (bytes "3.0") ≡ 0
unfolding same
version-fine = refl

abbrev id_attribute : List ℕ → Attribute
id_attribute id = record { name = bytes "id"; text = id }

abbrev pub root_attributes : List ℕ → List Attribute
root_attributes id = id_attribute id ∷ record { name = bytes "compCLFversion"; text = bytes "3.0" } ∷ []

module _ (most : ℕ) (id : List ℕ) (h : id_right most id ≡ true) where
  id-fine : list_rules.texts (bytes "id") id ≡ 0
  unfolding same
  id-fine =
      let k = right-length most id h in
      rw (ne_eqb (length id) 0 (λ e. omega arith))

  id-new : name_fault list_rules [] (bytes "id") ≡ 0
  unfolding is_named
  id-new = refl

  version-new : name_fault list_rules (id_attribute id ∷ []) (bytes "compCLFversion") ≡ 0
  unfolding is_named same
  version-new = refl

  both-there : list_rules.opened (root_attributes id) ≡ 0
  unfolding is_named same
  both-there = refl

  root-tag : (t : List ℕ) → (start_tag list_rules).run (bytes " id=\"" ++ (id ++ (bytes "\" compCLFversion=\"3.0\">" ++ t))) ≡ done (record { attributes = root_attributes id; empty = false }) t
  root-tag t =
      tag-from list_rules (bytes " id=\"" ++ (id ++ (bytes "\" compCLFversion=\"3.0\">" ++ t)))
      ∙ tag-more list_rules [] (bytes "id") id (bytes " compCLFversion=\"3.0\">" ++ t) id-name (id-quoted most id h) id-new id-fine
      ∙ tag-more list_rules (id_attribute id ∷ []) (bytes "compCLFversion") (bytes "3.0") (62 ∷ t) version-name version-quoted version-new version-fine
      ∙ tag-ends list_rules (root_attributes id) t both-there

  -- all up to the end of the root's start tag
  pub head-reads : (t : List ℕ) → head.run (bytes "<?xml version=\"1.0\" encoding=\"UTF-8\"?>\n<ProcessList id=\"" ++ (id ++ (bytes "\" compCLFversion=\"3.0\">" ++ t)))
      ≡ done (record { attributes = root_attributes id; empty = false }) t
  unfolding head
  head-reads t =
      let s : List ℕ = bytes " id=\"" ++ (id ++ (bytes "\" compCLFversion=\"3.0\">" ++ t)) in
      ap (λ (o : Out (Unit {0})). then_out (then_out o (λ u. prologue.run)) (λ u. (start_tag list_rules).run)) (declared (bytes "\n<ProcessList" ++ s))
      ∙ ap (λ (o : Out (Unit {0})). then_out o (λ u. (start_tag list_rules).run)) (prologue-reads (bytes "id=\"" ++ (id ++ (bytes "\" compCLFversion=\"3.0\">" ++ t))))
      ∙ root-tag t
