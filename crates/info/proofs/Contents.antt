-- The content of an element inside Info, and the element around it. Assumes nothing.
use mathlib.Core.Path.{◌≡◌, refl, sym, ap, ◌∙◌}
use mathlib.Core.List.{List, []}
use Prim.Native.Nat.{ℕ, zero, suc, ◌+◌, ◌-◌, ◌≤◌, ◌<◌}
use native.Mathlib.Omega.{arith}
use lib.ListN.{length, drop, length-drop}
use Rattle.scanning.specs.Steps.{past}
use Rattle.grammar.specs.Parse.{Out, Parser, Turn, again, last, bind_p, ret_p, judge_p, strict_p, loop_p}
use Rattle.grammar.specs.Grammar.{G, ret, ◌>>◌}
use Rattle.grammar.specs.Laws.{loop-again, loop-last, loop-cut, loop-fault}
use Rattle.xml.specs.Bytes.{bytes}
use Rattle.xml.specs.Xml.{Tag, plain, start_tag, open_name, end_tag}
use Rattle.xml.specs.Elements.{info_content, info_rest, info_element, info}
use Rattle.xml.specs.Code.{part, Reads, no_value, Failed}
use Rattle.xml.specs.CodeLaws.{reads-fewer, reads_then, reads-failed, reads-ret, reads-strict, reads-ill, reads-unjudged}
use Rattle.xml.specs.Code.{Scan}
use Rattle.std.specs.Prelude.{Ok, Err}
use Rattle.xml.specs.declared.Stop.{Stop}
use Rattle.xml.specs.declared.Stop.TheVariants.{Fault, Cut}
use Rattle.tags.specs.Code.{part_in}
use Rattle.tags.proofs.Words.{part_in_lem}
use Rattle.info.specs.Code.{info_turn, PieceIs}
use Rattle.info.specs.declared.Piece.TheVariants.{Passed, End, Child}

-- ---- the loop over a content

module _ (element : G (Unit {0})) (w : List ℕ) where
  abbrev turns : Unit {0} → List ℕ → Out (Turn (Unit {0}) (Unit {0}))
  turns st = info_turn element w

  abbrev runs : List ℕ → Out (Unit {0})
  runs = loop_p turns tt

  -- the rest of the content, at what is left of the bytes
  pub record ContentInv (s : List ℕ) (at i : ℕ) : Type 0 where
    pub low : at ≤ i
    pub out : runs (drop at s) ≡ runs (drop i s)

module _ {element : G (Unit {0})} {w : List ℕ} {s : List ℕ} {at i : ℕ} (v : ContentInv element w s at i) where
  abbrev Content : Scan → Type 0
  Content r = Reads 1 (info_content element w).run no_value s at r

  -- a turn after which the content goes on
  on : (e : ℕ) → Reads 1 (info_turn element w) (λ e. again tt) s i (Ok e) → ContentInv element w s at e
  on e u =
      let k : (i + 1 ≤ e) × (e ≤ length s) = u.inside in
      record { low = omega (arith, v.low); out = v.out ∙ loop-again (turns element w) tt (drop i s) tt (drop e s) (sym u.out) (simp length-drop (omega arith)) }

  -- a turn that is at fault or cut short
  failed : (r : Scan) → Failed r → Reads 1 (info_turn element w) (λ e. again tt) s i r → Content r
  failed (Ok e) f u = absurd f
  failed (Err (Fault k q)) f u = record { out = sym (v.out ∙ loop-fault (turns element w) tt (drop i s) k (drop q s) (sym u.out)); inside = (omega (arith, v.low, u.inside), u.inside.1) }
  failed (Err Cut) f u = record { out = sym (v.out ∙ loop-cut (turns element w) tt (drop i s) (sym u.out)); inside = tt }

  -- the last turn
  over : (r : Scan) → Reads 1 (info_turn element w) (λ e. last tt) s i r → Content r
  over (Ok e) u = record { out = sym (v.out ∙ loop-last (turns element w) tt (drop i s) tt (drop e s) (sym u.out)); inside = (omega (arith, v.low, u.inside), u.inside.1) }
  over (Err (Fault k q)) u = record { out = sym (v.out ∙ loop-fault (turns element w) tt (drop i s) k (drop q s) (sym u.out)); inside = (omega (arith, v.low, u.inside), u.inside.1) }
  over (Err Cut) u = record { out = sym (v.out ∙ loop-cut (turns element w) tt (drop i s) (sym u.out)); inside = tt }

  pub content-ended : length s ≤ i → Content (Err Cut)
  content-ended h = record { out = sym (v.out ∙ ap (runs element w) (past s i h) ∙ loop-cut (turns element w) tt [] refl); inside = tt }

  pub content-passed : (e : ℕ) → PieceIs s i (Ok (Passed e)) → ContentInv element w s at e
  content-passed e p = on e (p element w)

  pub content-forward : (e : ℕ) → PieceIs s i (Ok (Passed e)) → (i < e) × (e ≤ length s)
  content-forward e p = let k : (i + 1 ≤ e) × (e ≤ length s) = (p element w).inside in (omega arith, k.1)

  pub content-failed : (x : Stop) → PieceIs s i (Err x) → Content (Err x)
  content-failed x p = failed (Err x) tt (p element w)

  -- the end tag
  pub content-end : (r : Scan) → PieceIs s i (Ok End) → Reads 1 (end_tag w 0).run no_value s i r → Content r
  content-end r p u =
      let z : Reads 1 (strict_p (end_tag w 0 >> ret (last tt)).run) (λ e. last tt) s i r =
      reads-strict (end_tag w 0 >> ret (last tt)).run (λ e. last tt) s i 1 r (omega arith) (reads-ret (end_tag w 0).run no_value (last tt) s i 1 r u) in
      over r (record { out = z.out ∙ sym (p element w); inside = z.inside })

  -- a child
  module _ (r : Scan) (p : PieceIs s i (Ok Child)) (u : Reads 1 element.run no_value s i r) where
    child : Reads 1 (info_turn element w) (λ e. again tt) s i r
    child =
        let z : Reads 1 (strict_p (element >> ret (again tt)).run) (λ e. again tt) s i r =
        reads-strict (element >> ret (again tt)).run (λ e. again tt) s i 1 r (omega arith) (reads-ret element.run no_value (again tt) s i 1 r u) in
        record { out = z.out ∙ sym (p element w); inside = z.inside }

    pub content-child-failed : Failed r → Content r
    content-child-failed f = failed r f child

  pub content-child : (e : ℕ) → PieceIs s i (Ok Child) → Reads 1 element.run no_value s i (Ok e) → ContentInv element w s at e
  content-child e p u = on e (child (Ok e) p u)

abbrev then-rest : G (Unit {0}) → List ℕ → Tag → Parser (Unit {0})
then-rest element w tag = (info_rest element w tag).run

-- Info itself
pub info-rest : (s : List ℕ) (at : ℕ) (r : Scan) → Reads 1 (bind_p (start_tag plain).run (then-rest (info_element 16) (bytes "Info"))) no_value s at r
    → Reads 1 info.run no_value s at r
unfolding info
info-rest s at r v = v

-- ---- an element

module _ (left : ℕ) (s : List ℕ) (at : ℕ) where
  abbrev Element : Scan → Type 0
  Element r = Reads 1 (info_element left).run no_value s at r

  -- a name at fault or cut short
  pub element-unnamed : (r : Scan) → Failed r → Reads 2 open_name.run (part s (at + 1)) s at r → Element r
  unfolding info_element
  element-unnamed r f v = go left
    where
      go : (n : ℕ) → Reads 1 (info_element n).run no_value s at r
      go zero =
          reads-failed (judge_p (λ w. 3) open_name.run) (part s (at + 1)) (λ w. ret_p tt) no_value s at 2 1 r f
          (reads-unjudged open_name.run (part s (at + 1)) s at (λ w. 3) 2 2 r f v)
      go (suc n) = reads-failed open_name.run (part s (at + 1)) (λ w. bind_p (start_tag plain).run (then-rest (info_element n) w)) no_value s at 2 1 r f v

  module _ (e : ℕ) (v : Reads 2 open_name.run (part s (at + 1)) s at (Ok e)) where
    -- 'any element at depth 17, empty or not, is 3'
    pub element-deep : left ≡ 0 → Element (Err (Fault 3 at))
    unfolding info_element
    element-deep q =
        rw q
        (reads-failed (judge_p (λ w. 3) open_name.run) (part s (at + 1)) (λ w. ret_p tt) no_value s at 2 1 (Err (Fault 3 at)) tt
        (reads-ill open_name.run (part s (at + 1)) s at (λ w. 3) 2 2 e 3 refl (λ z. omega arith) v))

    pub element-rest : (r : Scan) → (left ≡ 0 → ⊥) → Reads 1 (bind_p (start_tag plain).run (then-rest (info_element (left - 1)) (part_in s (at + 1) e))) no_value s e r → Element r
    unfolding info_element
    element-rest r q u =
        let z : left ≡ suc (left - 1) = omega arith in
        let p : part_in s (at + 1) e ≡ part s (at + 1) e = sym (part_in_lem s (at + 1) e v.inside.1) in
        rw z
        (reads-fewer (bind_p open_name.run (λ w. bind_p (start_tag plain).run (then-rest (info_element (left - 1)) w))) no_value s at 3 1 r (omega arith)
        (reads_then open_name.run (part s (at + 1)) (λ w. bind_p (start_tag plain).run (then-rest (info_element (left - 1)) w)) no_value s at 2 1 e r v (rw p at u)))
