-- The bytes of an element: cut, 20, or an item of ProcessList with the element's own answer. Assumes nothing.
use Rattle.process_list.specs.List.{Element}
use mathlib.Core.Path.{◌≡◌, refl, sym, ap, ◌∙◌, subst}
use mathlib.Core.Bool.{Bool, true, false, cond}
use mathlib.Core.List.{List, [], ◌∷◌, ◌++◌}
use Prim.Native.Nat.{ℕ, zero, suc, ◌<◌}
use native.Mathlib.Omega.{arith}
use lib.ListN.{length, length-append}
use borrow.Author.Tests.{lt-ltb}
use Rattle.grammar.specs.Parse.{Out, done, fault, cut, Parser, then_out, ret_p, strict_out, judged_to, judge_out}
use Rattle.grammar.specs.Splice.{done-law}
use Rattle.xml.specs.Bytes.{is_space, is_letter, is_name_byte, slash, exclamation, question}
use Rattle.xml.specs.AmongLaws as Starts
use Rattle.xml.specs.Xml.{open_name}
use Rattle.xml.specs.Elements.{Part, child, between}
use Rattle.clf.specs.Nodes.{NodeName, node_fault, node_body}
use Rattle.clf.specs.List.{Child, node, Flags, child_fault, child_body, list_item}
use Rattle.look.specs.Replacing.{start, element}
use Rattle.claims.proofs.Element.{name-is, letter-not, NodeWord, StartOf, start_of, start-20}

-- what an item of a child's name w gives
abbrev as_child : List ℕ → Parser (Part Child)
as_child w s = then_out ((child_body w).run s) (λ v. ret_p (child v))

abbrev pub as_item : Out Element → Out (Part Child)
as_item o = then_out o (λ m. ret_p (child (node m)))

not-slash : is_letter slash ≡ false
unfolding is_letter
not-slash = refl

not-exclamation : is_letter exclamation ≡ false
unfolding is_letter
not-exclamation = refl

not-question : is_letter question ≡ false
unfolding is_letter
not-question = refl

-- an item at `<` and a letter is a child, by its name
item-child : (st : Flags) (c : ℕ) (s : List ℕ) → is_letter c ≡ true
    → (list_item st).run (60 ∷ c ∷ s) ≡ strict_out (then_out (judge_out (child_fault st) (open_name.run (60 ∷ c ∷ s)) (60 ∷ c ∷ s)) as_child) (60 ∷ c ∷ s)
unfolding list_item between is_space
item-child st c s h = rw (letter-not c slash h not-slash, letter-not c exclamation h not-exclamation, letter-not c question h not-question)

name-open : (c : ℕ) (w : List ℕ) (n : NodeName) (b : ℕ) (t : List ℕ) → NodeWord (c ∷ w) n → is_name_byte b ≡ false → open_name.run (60 ∷ c ∷ w ++ b ∷ t) ≡ done (c ∷ w) (b ∷ t)
unfolding open_name
name-open c w n b t k h = name-is b t h c w k.letter k.named

module _ (c : ℕ) (w : List ℕ) (n : NodeName) (k : NodeWord (c ∷ w) n) (u e : List ℕ) (shorter : length u < length e) where
  -- what stands behind the name
  by-body : (o : Out Element) → (node_body n).run u ≡ o → strict_out (then_out (then_out o (λ m. ret_p (node m))) (λ v. ret_p (child v))) e ≡ as_item o
  by-body (done m r) q =
      let h = done-law (node_body n).run u m r ((node_body n).law u) q in
      ap (λ (v : Bool). cond v (done (child (node m)) r) cut) (lt-ltb (length r) (length e) (omega (arith, ap length h.1, length-append h.0 r)))
  by-body (fault j r) q = refl
  by-body cut q = refl

  -- by whether nodes of this name are carried
  by-fault : (j : ℕ) → strict_out (then_out (judged_to j (c ∷ w) u e) as_child) e ≡ as_item (then_out (judged_to j n u e) (λ m. (node_body m).run))
  by-fault zero = ap (λ (o : Out Child). strict_out (then_out o (λ v. ret_p (child v))) e) (k.body u) ∙ by-body ((node_body n).run u) refl
  by-fault (suc j) = refl

element-started : (e : List ℕ) (n : NodeName) (u : List ℕ) → start.run e ≡ done n u → element.run e ≡ then_out (judged_to (node_fault n) n u e) (λ m. (node_body m).run)
unfolding element
element-started e n u q = ap (λ (o : Out NodeName). then_out (judge_out node_fault o e) (λ m. (node_body m).run)) q

-- a start that is read is a child's `<` and name
item-started : (st : Flags) (c : ℕ) (w : List ℕ) (n : NodeName) (b : ℕ) (t : List ℕ) → NodeWord (c ∷ w) n → is_name_byte b ≡ false
    → start.run (60 ∷ c ∷ w ++ b ∷ t) ≡ done n (b ∷ t) → (list_item st).run (60 ∷ c ∷ w ++ b ∷ t) ≡ as_item (element.run (60 ∷ c ∷ w ++ b ∷ t))
item-started st c w n b t k h q =
    let e : List ℕ = 60 ∷ c ∷ w ++ b ∷ t in
    let u : List ℕ = b ∷ t in
    item-child st c (w ++ b ∷ t) k.letter
    ∙ ap (λ (o : Out (List ℕ)). strict_out (then_out (judge_out (child_fault st) o e) as_child) e) (name-open c w n b t k h)
    ∙ ap (λ (j : ℕ). strict_out (then_out (judged_to j (c ∷ w) u e) as_child) e) (k.faults st)
    ∙ by-fault c w n k u e (simp length-append (omega arith)) (node_fault n)
    ∙ ap as_item (sym (element-started e n u q))

-- THE ELEMENT AND THE ITEM
pub data View (e : List ℕ) : Type 0 where
  is_cut : element.run e ≡ cut → View e
  is20 : element.run e ≡ fault 20 e → View e
  is_item : (d : List ℕ) → e ≡ 60 ∷ d → ((st : Flags) → (list_item st).run e ≡ as_item (element.run e)) → View e

pub view : (e : List ℕ) → View e
unfolding start element
view e = go (start_of e)
  where
    by : (o : Out NodeName) → start.run e ≡ o → element.run e ≡ then_out (judge_out node_fault o e) (λ m. (node_body m).run)
    by o q = ap (λ (o : Out NodeName). then_out (judge_out node_fault o e) (λ m. (node_body m).run)) q

    go : StartOf e → View e
    go (Starts.is_cut q) = is_cut (by cut q)
    go (Starts.is_none q) = is20 (by (fault 20 e) (start-20 e q))
    go (Starts.is_name [] n b t p f h q) = absurd p.letter
    go (Starts.is_name (c ∷ w) n b t p f h q) =
        is_item (c ∷ w ++ b ∷ t) f (λ st. subst (λ (x : List ℕ). (list_item st).run x ≡ as_item (element.run x)) (sym f) (item-started st c w n b t p h (q t)))
