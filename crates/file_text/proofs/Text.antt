-- A file's text from its parts' answers. Assumes nothing.
use Rattle.process_list.specs.List.{Element}
use mathlib.Core.Path.{◌≡◌, refl, sym, ap, ◌∙◌}
use mathlib.Core.List.{List, []}
use Prim.Native.Nat.{ℕ}
use lib.ListN.{drop}
use Rattle.grammar.specs.Parse.{Out, done, fault, cut, before, then_out, bind_p, ret_p, kept_out}
use Rattle.grammar.specs.Laws.{nope}
use Rattle.xml.specs.Xml.{Tag, start_tag}
use Rattle.xml.specs.Code.{Scan}
use Rattle.std.specs.Prelude.{Ok, Err}
use Rattle.xml.specs.declared.Stop.TheVariants as Stops
use Rattle.xml.specs.Code.{scan_out}
use Rattle.xml.specs.Elements.{Part}
use Rattle.clf.specs.List.{Child, list_rules, list_content, head, Document, document, tail}
use Rattle.clf.specs.Reading.{nodes_among}
use Rattle.clf.specs.Whole.{whole_nodes}
use Rattle.clf.proofs.Whole.{document-whole}
use Rattle.around_root.specs.Code.{before_root}
use Rattle.file_text.specs.Code.{after_root, text_nodes, root_p}

head-is : (s : List ℕ) → head.run s ≡ then_out (before_root s) (λ u. (start_tag list_rules).run)
unfolding head before_root
head-is s = refl

abbrev content : (s : List ℕ) → Out Tag → Out (List Element)
content s o = then_out (then_out (kept_out o s) (λ h. bind_p (list_content h.0).run (λ l. ret_p (record { start = h.1; parts = l })))) after_root

text-is : (s : List ℕ) → text_nodes s ≡ content s (head.run s)
unfolding text_nodes document
text-is s = refl

-- the nodes of a text without fault are those that stand whole
text-nodes : (s : List ℕ) (l : List Element) (r : List ℕ) → done l r ≡ text_nodes s → l ≡ whole_nodes s
unfolding text_nodes
text-nodes s l r q = by (document.run s) refl q
  where
    value : Out (List Element) → List Element
    value (done x u) = x
    value (fault k u) = []
    value cut = []

    by : (o : Out Document) → document.run s ≡ o → done l r ≡ then_out o after_root → l ≡ whole_nodes s
    by (done d u) e z = behind (tail u) z
      where
        behind : (x : Out (Unit {0})) → done l r ≡ then_out x (λ y t. done (nodes_among d.parts) t) → l ≡ whole_nodes s
        behind (done y t) w = ap value w ∙ (document-whole s d u e).nodes
        behind (fault k t) w = nope cc
        behind cut w = nope cc
    by (fault k u) e z = nope cc
    by cut e z = nope cc

pub out-whole : (s : List ℕ) (l : List Element) (r : Scan) → scan_out (λ e. l) s r ≡ text_nodes s → scan_out (λ e. whole_nodes s) s r ≡ text_nodes s
out-whole s l (Ok e) q = ap (λ (x : List Element). done x (drop e s)) (sym (text-nodes s l (drop e s) q)) ∙ q
out-whole s l (Err (Stops.Fault k p)) q = q
out-whole s l (Err Stops.Cut) q = q

module _ (s : List ℕ) where
  pub head-failed : (o : Out (Unit {0})) → before_root s ≡ o → head.run s ≡ then_out o (λ u. (start_tag list_rules).run)
  head-failed o q = head-is s ∙ ap (λ (x : Out (Unit {0})). then_out x (λ u. (start_tag list_rules).run)) q

  pub before-fault : (k : ℕ) (r : List ℕ) → before_root s ≡ fault k r → text_nodes s ≡ fault k r
  before-fault k r q = text-is s ∙ ap (content s) (head-is s ∙ ap (λ (o : Out (Unit {0})). then_out o (λ u. (start_tag list_rules).run)) q)

  pub before-cut : before_root s ≡ cut → text_nodes s ≡ cut
  before-cut q = text-is s ∙ ap (content s) (head-is s ∙ ap (λ (o : Out (Unit {0})). then_out o (λ u. (start_tag list_rules).run)) q)

  module _ (u : List ℕ) (q : before_root s ≡ done tt u) where
    pub head_at : head.run s ≡ (start_tag list_rules).run u
    head_at = head-is s ∙ ap (λ (o : Out (Unit {0})). then_out o (λ x. (start_tag list_rules).run)) q

    -- the rest of the text, by the root's answer
    abbrev rest : Out (List (Part Child × List ℕ)) → Out (List Element)
    rest o = then_out o (λ l r. then_out (tail r) (λ x t. done (nodes_among l) t))

    by-content : (h : Tag × List ℕ) (o : Out (List (Part Child × List ℕ))) → then_out (then_out o (λ l. ret_p (record { start = h.1; parts = l }))) after_root ≡ rest o
    by-content h (done l r) = refl
    by-content h (fault k r) = refl
    by-content h cut = refl

    by-tag : (o : Out Tag) → content s o ≡ rest (then_out o (λ tag. (list_content tag).run))
    by-tag (done tag r) = by-content (tag, before s r) ((list_content tag).run r)
    by-tag (fault k r) = refl
    by-tag cut = refl

    pub text-rest : text_nodes s ≡ rest (root_p u)
    text-rest = text-is s ∙ ap (content s) head_at ∙ by-tag ((start_tag list_rules).run u)

    pub root-fault : (k : ℕ) (r : List ℕ) → root_p u ≡ fault k r → text_nodes s ≡ fault k r
    root-fault k r e = text-rest ∙ ap rest e

    pub root-short : root_p u ≡ cut → text_nodes s ≡ cut
    root-short e = text-rest ∙ ap rest e

    pub root-done : (l : List (Part Child × List ℕ)) (r : List ℕ) → root_p u ≡ done l r → text_nodes s ≡ then_out (tail r) (λ x t. done (nodes_among l) t)
    root-done l r e = text-rest ∙ ap rest e
