-- A file with other bytes where a node's element stood, as a document. Assumes nothing.
use Rattle.process_list.specs.List.{Element}
use mathlib.Core.Path.{◌≡◌, refl, sym, ap, ◌∙◌, subst}
use mathlib.Core.Bool.{false}
use mathlib.Core.List.{List, [], ◌∷◌, ◌++◌, append_assoc}
use Prim.Native.Nat.{ℕ, ◌+◌}
use lib.ListN.{length, take, drop, length-append}
use lib.Seq.{take_at, drop_at}
use Rattle.grammar.specs.Parse.{Out, done, fault, then_out, bind_p, ret_p, kept_p}
use Rattle.grammar.specs.Laws.{Follows, follows-app}
use Rattle.grammar.specs.Splice.{kept-law, kept-done, flat, turns, Alone, turn_at, splice-file, splice-done, splice-fault}
use Rattle.xml.specs.Xml.{Tag}
use Rattle.xml.specs.Elements.{child}
use Rattle.clf.specs.List.{node, Flags, no_flags, list_item, next_flags, head, list_content, document}
use Rattle.claims.specs.TriedFile.{spliced}
use Rattle.claims.proofs.Found.{Items, node-bytes}
use Rattle.claims.proofs.NodeEnds.{node_end}

document-done : (s h : List ℕ) (tag : Tag) (u : List ℕ) (ps : Items) (r : List ℕ) → kept_p head.run s ≡ done (tag, h) u → (list_content tag).run u ≡ done ps r
    → document.run s ≡ done (record { start = h; parts = ps }) r
unfolding document
document-done s h tag u ps r p q =
    ap (λ (o : Out (Tag × List ℕ)). then_out o (λ x. bind_p (list_content x.0).run (λ l. ret_p (record { start = x.1; parts = l })))) p
    ∙ ap (λ (o : Out Items). then_out o (λ l. ret_p (record { start = h; parts = l }))) q

document-fault : (s h : List ℕ) (tag : Tag) (u : List ℕ) (k : ℕ) (r : List ℕ) → kept_p head.run s ≡ done (tag, h) u → (list_content tag).run u ≡ fault k r
    → document.run s ≡ fault k r
unfolding document
document-fault s h tag u k r p q =
    ap (λ (o : Out (Tag × List ℕ)). then_out o (λ x. bind_p (list_content x.0).run (λ l. ret_p (record { start = x.1; parts = l })))) p
    ∙ ap (λ (o : Out Items). then_out o (λ l. ret_p (record { start = h; parts = l }))) q

-- the content of a ProcessList that is not empty is items
pub content-items : (tag : Tag) → tag.empty ≡ false → (u : List ℕ) → (list_content tag).run u ≡ turns list_item next_flags no_flags u
content-items tag q u = rw q

-- s is h, then the items bs, a node's bytes c, the items xs, and r
module _ (s h : List ℕ) (tag : Tag) (u : List ℕ) (bs : Items) (n : Element) (c : List ℕ) (xs : Items) (r : List ℕ)
    (start : kept_p head.run s ≡ done (tag, h) u) (full : tag.empty ≡ false) (body : turns list_item next_flags no_flags u ≡ done (bs ++ (child (node n), c) ∷ xs) r) where
  abbrev after : List ℕ
  after = flat xs ++ r

  file-u : u ≡ flat bs ++ (c ++ after)
  file-u = splice-file list_item next_flags bs (child (node n), c) xs no_flags u r body

  pub file : s ≡ h ++ (flat bs ++ (c ++ after))
  file = (kept-law head.run s (tag, h) u (head.law s) start).0 ∙ ap (λ (l : List ℕ). h ++ l) file-u

  -- the node's bytes start with `<`
  pub node-c : (d : List ℕ) × (c ≡ 60 ∷ d)
  node-c =
      let k : Alone list_item next_flags (child (node n), c) = turn_at list_item next_flags bs (child (node n), c) xs no_flags u r body in
      node-bytes k.v c k.u n k.reads k.some

  -- and end with `>`
  pub node-last : (d : List ℕ) × (c ≡ d ++ 62 ∷ [])
  node-last =
      let k : Alone list_item next_flags (child (node n), c) = turn_at list_item next_flags bs (child (node n), c) xs no_flags u r body in
      node_end k.v c k.u n k.reads

  -- the file with e in the node's place
  abbrev pub tried : List ℕ → List ℕ
  tried e = h ++ (flat bs ++ (e ++ after))

  pub tried-is : (e : List ℕ) → spliced s (length h + length (flat bs), length c) e ≡ tried e
  tried-is e =
      let p : List ℕ = h ++ flat bs in
      let e₁ : s ≡ p ++ (c ++ after) = file ∙ sym (append_assoc h (flat bs) (c ++ after)) in
      let e₂ : s ≡ (p ++ c) ++ after = e₁ ∙ sym (append_assoc p c after) in
      let t₁ : take (length h + length (flat bs)) s ≡ p =
      ap (take (length h + length (flat bs))) e₁ ∙ take_at p (c ++ after) (length h + length (flat bs)) (length-append h (flat bs)) in
      let t₂ : drop (length h + length (flat bs) + length c) s ≡ after =
      ap (drop (length h + length (flat bs) + length c)) e₂ ∙ drop_at (p ++ c) after (length h + length (flat bs) + length c) (simp length-append) in
      ap (λ (l : List ℕ). l ++ (e ++ drop (length h + length (flat bs) + length c) s)) t₁ ∙ ap (λ (l : List ℕ). p ++ (e ++ l)) t₂
      ∙ append_assoc h (flat bs) (e ++ after)

  -- up to the node nothing has changed
  tried-head : (d : List ℕ) → kept_p head.run (tried (60 ∷ d)) ≡ done (tag, h) (flat bs ++ ((60 ∷ d) ++ after))
  tried-head d =
      let t : List ℕ = flat bs ++ ((60 ∷ d) ++ after) in
      let f₁ : Follows (c ++ after) ((60 ∷ d) ++ after) =
      subst (λ (l : List ℕ). Follows (l ++ after) ((60 ∷ d) ++ after)) (sym node-c.1) (d ++ after, refl) in
      let f : Follows u t = subst (λ (l : List ℕ). Follows l t) (sym file-u) (follows-app (flat bs) (c ++ after) ((60 ∷ d) ++ after) f₁) in
      kept-done head.run h tag t ((kept-law head.run s (tag, h) u (head.law s) start).1 t f)

  -- the new bytes are one node: the document is the same but for that node
  pub tried-done : (d : List ℕ) (m : Element) → ((v : Flags) → (list_item v).run (60 ∷ d) ≡ done (child (node m)) [])
      → document.run (tried (60 ∷ d)) ≡ done (record { start = h; parts = bs ++ (child (node m), 60 ∷ d) ∷ xs }) r
  tried-done d m q =
      document-done (tried (60 ∷ d)) h tag (flat bs ++ ((60 ∷ d) ++ after)) (bs ++ (child (node m), 60 ∷ d) ∷ xs) r (tried-head d)
      (content-items tag full (flat bs ++ ((60 ∷ d) ++ after))
      ∙ splice-done list_item next_flags bs (child (node n), c) xs no_flags u r body 60 node-c.0 d node-c.1 (child (node m)) q (λ v. refl))

  -- they are at fault: so is the file, there
  pub tried-fault : (d : List ℕ) (j : ℕ) (w : List ℕ) → ((v : Flags) → (list_item v).run (60 ∷ d) ≡ fault j w) → document.run (tried (60 ∷ d)) ≡ fault j (w ++ after)
  tried-fault d j w q =
      document-fault (tried (60 ∷ d)) h tag (flat bs ++ ((60 ∷ d) ++ after)) j (w ++ after) (tried-head d)
      (content-items tag full (flat bs ++ ((60 ∷ d) ++ after))
      ∙ splice-fault list_item next_flags bs (child (node n), c) xs no_flags u r body 60 node-c.0 d node-c.1 j w q)
