-- What begins between elements, by its first bytes. Assumes nothing.
use mathlib.Core.Path.{◌≡◌, refl, sym, ap, ◌∙◌}
use mathlib.Core.Bool.{Bool, true, false, cond}
use mathlib.Core.List.{List, ◌∷◌}
use Prim.Native.Nat.{ℕ, ◌+◌, ◌≤◌, ◌<◌}
use native.Mathlib.Omega.{arith}
use lib.ListN.{length, get_or, drop}
use lib.Dec.{eqb}
use borrow.Author.Tests.{eq-eqb, ne_eqb}
use Rattle.scanning.specs.Steps.{here, past}
use Rattle.grammar.specs.Parse.{Out, done, fault, then_out, ret_p, settle_p}
use Rattle.xml.specs.Bytes.{is_space}
use Rattle.xml.specs.Xml.{comment, entity, open_name}
use Rattle.xml.specs.Code.{part, Reads, no_value}
use Rattle.xml.specs.CodeLaws.{look_at, place-left}
use Rattle.xml.specs.Code.{Scan}
use Rattle.std.specs.Prelude.{Result, Ok, Err, MatchResult, IsOkAnd}
use Rattle.xml.specs.declared.Stop.{Stop}
use Rattle.xml.specs.declared.Stop.TheVariants.{Fault, Cut}
use Rattle.markup.specs.Settled.{settled_scan}
use Rattle.markup.specs.Items.{ItemFound, passed, starts, ends, markup_item, item_by_two, item_by_byte, behind_one, content_item, item_out, item_placed, ItemInside, ItemReads}
use Rattle.markup.specs.Items.{ItemReadsBy}
use Rattle.markup.proofs.Known.{reads-settle}
use Rattle.markup.specs.declared.Item.{Item}
use Rattle.markup.specs.declared.Item.TheVariants.{Misc, StartTag, EndTag}

-- an item up to a next place
abbrev pub item_of : (ℕ → Item) → Scan → Result Item Stop
item_of f (Ok e) = Ok (f e)
item_of f (Err stop) = Err stop

-- the same as `map` has it
pub mapped : (f : ℕ → Item) (r : Scan) (x : Result Item Stop) → MatchResult r (λ e. IsOkAnd x (λ i. i ≡ f e)) (λ stop. x ≡ Err stop) → x ≡ item_of f r
mapped f (Ok e) (Ok i) h = ap Ok h
mapped f (Ok e) (Err stop) h = absurd h
mapped f (Err stop) x h = h

module _ (s : List ℕ) (at : ℕ) where
  -- ---- behind a `<`

  pub markup-cut : at < length s → length s ≤ at + 1 → ItemReadsBy item_by_two s at (Err Cut)
  markup-cut h k = record { out = sym (ap item_by_two (here s at h ∙ ap (λ (l : List ℕ). get_or s at 0 ∷ l) (past s (at + 1) k))); inside = tt }

  module _ (h : at + 1 < length s) where
    abbrev second : ℕ
    second = get_or s (at + 1) 0

    abbrev choose : Bool → Bool → Bool → Out ItemFound
    choose x y z =
        cond x (done ends (drop at s))
        (cond y (then_out (comment.run (drop at s)) (λ u. ret_p passed)) (cond z (fault 3 (drop at s)) (then_out (open_name.run (drop at s)) (λ w. ret_p (starts w)))))

    two : (x y z : Bool) → eqb second 47 ≡ x → eqb second 33 ≡ y → eqb second 63 ≡ z → item_by_two (drop at s) ≡ choose x y z
    two x y z qx qy qz =
        let q : drop at s ≡ get_or s at 0 ∷ second ∷ drop (at + 1 + 1) s = here s at (omega arith) ∙ ap (λ (l : List ℕ). get_or s at 0 ∷ l) (here s (at + 1) h) in
        ap item_by_two q ∙ ap (markup_item second) (sym q)
        ∙ ap (λ (t : Bool). choose t (eqb second 33) (eqb second 63)) qx ∙ ap (λ (t : Bool). choose x t (eqb second 63)) qy ∙ ap (λ (t : Bool). choose x y t) qz

    pub markup-end : second ≡ 47 → ItemReadsBy item_by_two s at (Ok EndTag)
    markup-end q = record { out = sym (two true (eqb second 33) (eqb second 63) (eq-eqb second 47 q) refl refl); inside = omega arith }

    module _ (ne : second ≡ 47 → ⊥) where
      pub markup-comment : (r : Scan) → second ≡ 33 → Reads 1 comment.run no_value s at r → ItemReadsBy item_by_two s at (item_of Misc r)
      markup-comment r q v = go r v
        where
          turn : then_out (comment.run (drop at s)) (λ u. ret_p passed) ≡ item_by_two (drop at s)
          turn = sym (two false true (eqb second 63) (ne_eqb second 47 ne) (eq-eqb second 33 q) refl)

          go : (r : Scan) → Reads 1 comment.run no_value s at r → ItemReadsBy item_by_two s at (item_of Misc r)
          go (Ok e) v = record { out = ap (λ (o : Out (Unit {0})). then_out o (λ u. ret_p passed)) v.out ∙ turn; inside = v.inside }
          go (Err (Fault k p)) v = record { out = ap (λ (o : Out (Unit {0})). then_out o (λ u. ret_p passed)) v.out ∙ turn; inside = v.inside }
          go (Err Cut) v = record { out = ap (λ (o : Out (Unit {0})). then_out o (λ u. ret_p passed)) v.out ∙ turn; inside = tt }

      module _ (nc : second ≡ 33 → ⊥) where
        pub markup-question : second ≡ 63 → ItemReadsBy item_by_two s at (Err (Fault 3 at))
        markup-question q = record { out = sym (two false false true (ne_eqb second 47 ne) (ne_eqb second 33 nc) (eq-eqb second 63 q)); inside = (omega arith, omega arith) }

        pub markup-open : (r : Scan) → (second ≡ 63 → ⊥) → Reads 2 open_name.run (part s (at + 1)) s at r → ItemReadsBy item_by_two s at (item_of StartTag r)
        markup-open r q v = go r v
          where
            turn : then_out (open_name.run (drop at s)) (λ w. ret_p (starts w)) ≡ item_by_two (drop at s)
            turn = sym (two false false false (ne_eqb second 47 ne) (ne_eqb second 33 nc) (ne_eqb second 63 q))

            go : (r : Scan) → Reads 2 open_name.run (part s (at + 1)) s at r → ItemReadsBy item_by_two s at (item_of StartTag r)
            go (Ok e) v = record { out = ap (λ (o : Out (List ℕ)). then_out o (λ w. ret_p (starts w))) v.out ∙ turn; inside = v.inside }
            go (Err (Fault k p)) v = record { out = ap (λ (o : Out (List ℕ)). then_out o (λ w. ret_p (starts w))) v.out ∙ turn; inside = v.inside }
            go (Err Cut) v = record { out = ap (λ (o : Out (List ℕ)). then_out o (λ w. ret_p (starts w))) v.out ∙ turn; inside = tt }

  -- ---- the first byte

  pub item-cut : length s ≤ at → ItemReads s at (Err Cut)
  unfolding content_item
  item-cut h = record { out = sym (ap content_item (past s at h)); inside = tt }

  module _ (h : at < length s) where
    abbrev first : ℕ
    first = get_or s at 0

    abbrev pick : Bool → Bool → Bool → Out ItemFound
    pick x y z =
        cond x (done passed (behind_one (drop at s)))
        (cond y (item_by_two (drop at s)) (cond z (then_out (settle_p 5 entity.run (drop at s)) (λ u. ret_p passed)) (fault 5 (drop at s))))

    one : (x y z : Bool) → is_space first ≡ x → eqb first 60 ≡ y → eqb first 38 ≡ z → content_item (drop at s) ≡ pick x y z
    unfolding content_item
    one x y z qx qy qz =
        look_at item_by_byte s at h
        ∙ ap (λ (t : Bool). pick t (eqb first 60) (eqb first 38)) qx ∙ ap (λ (t : Bool). pick x t (eqb first 38)) qy ∙ ap (λ (t : Bool). pick x y t) qz

    pub item-space : is_space first ≡ true → ItemReads s at (Ok (Misc (at + 1)))
    item-space q = record {
      out = sym (one true (eqb first 60) (eqb first 38) q refl refl ∙ ap (λ (l : List ℕ). done passed (behind_one l)) (here s at h));
      inside = (omega arith, omega arith);
    }

    module _ (ns : is_space first ≡ false) where
      pub markup-item : (r : Result Item Stop) → first ≡ 60 → ItemReadsBy item_by_two s at r → ItemReads s at r
      markup-item r q v = record { out = v.out ∙ sym (one false true (eqb first 38) ns (eq-eqb first 60 q) refl); inside = v.inside }

      module _ (nl : first ≡ 60 → ⊥) where
        pub item-and : (r : Scan) → first ≡ 38 → Reads 1 entity.run no_value s at r → ItemReads s at (item_of Misc (settled_scan 5 r at))
        item-and r q v = go (settled_scan 5 r at) (reads-settle entity.run no_value s at 1 5 r v)
          where
            turn : then_out (settle_p 5 entity.run (drop at s)) (λ u. ret_p passed) ≡ content_item (drop at s)
            turn = sym (one false false true ns (ne_eqb first 60 nl) (eq-eqb first 38 q))

            go : (r : Scan) → Reads 1 (settle_p 5 entity.run) no_value s at r → ItemReads s at (item_of Misc r)
            go (Ok e) v = record { out = ap (λ (o : Out (Unit {0})). then_out o (λ u. ret_p passed)) v.out ∙ turn; inside = v.inside }
            go (Err (Fault k p)) v = record { out = ap (λ (o : Out (Unit {0})). then_out o (λ u. ret_p passed)) v.out ∙ turn; inside = v.inside }
            go (Err Cut) v = record { out = ap (λ (o : Out (Unit {0})). then_out o (λ u. ret_p passed)) v.out ∙ turn; inside = tt }

        pub item-bare : (first ≡ 38 → ⊥) → ItemReads s at (Err (Fault 5 at))
        item-bare q = record { out = sym (one false false false ns (ne_eqb first 60 nl) (ne_eqb first 38 q)); inside = (omega arith, omega arith) }

-- ---- there is one answer

module _ (s : List ℕ) (at : ℕ) where
  placed-item : (r : Result Item Stop) → ItemInside s at r → r ≡ item_placed at (drop at s) (item_out s at r)
  placed-item (Ok (Misc e)) i = ap (λ x. Ok (Misc x)) (place-left s at e (omega (arith, i.0)) i.1)
  placed-item (Ok (StartTag e)) i = ap (λ x. Ok (StartTag x)) (place-left s at e (omega (arith, i.0)) i.1)
  placed-item (Ok EndTag) i = refl
  placed-item (Err (Fault k p)) i = ap (λ x. Err (Fault k x)) (place-left s at p i.0 i.1)
  placed-item (Err Cut) i = refl

  pub item-placed : (r : Result Item Stop) → ItemReads s at r → r ≡ item_placed at (drop at s) (content_item (drop at s))
  item-placed r v = placed-item r v.inside ∙ ap (item_placed at (drop at s)) v.out
