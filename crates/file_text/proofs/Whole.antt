-- ProcessList by its start tag, and the whole text. Assumes nothing.
use Rattle.process_list.specs.List.{Element}
use mathlib.Core.Path.{◌≡◌, refl, sym, ap, ◌∙◌, subst}
use mathlib.Core.Bool.{true, false}
use mathlib.Core.List.{List, []}
use Prim.Native.Nat.{ℕ, ◌≤◌, min}
use native.Mathlib.Omega.{arith}
use lib.ListN.{drop, length-drop}
use Rattle.grammar.specs.Parse.{Out, done, fault, cut, Parser, then_out}
use Rattle.grammar.specs.Grammar.{whole_items}
use Rattle.xml.specs.Xml.{Attribute, Tag, start_tag}
use Rattle.xml.specs.Elements.{Part}
use Rattle.xml.specs.Code.{Scan}
use Rattle.std.specs.Prelude.{Ok, Err}
use Rattle.xml.specs.declared.Stop.{Stop}
use Rattle.xml.specs.declared.Stop.TheVariants as Stops
use Rattle.xml.specs.Code.{scan_out, Inside, Reads, ReadsFrom, no_value}
use Rattle.process_list.specs.List as Lists
use Rattle.room.specs.Room.{Room, room_length, cleared_in, cleared_from}
use Rattle.room.proofs.Rooms.{RoomFrom, from-trans, from-cleared}
use Rattle.around_root.specs.Code.{before_root}
use Rattle.clf.specs.List.{Child, list_item, next_flags, no_flags, list_rules, list_content, head, tail}
use Rattle.clf.specs.Reading.{nodes_among}
use Rattle.clf.specs.Whole.{WholeText, nothing_whole, whole_behind, whole_text, whole_nodes, behind_head, content_place}
use Rattle.file_text.specs.declared.ListState.{ListState}
use Rattle.file_text.specs.declared.ListStep.{ListStep}
use Rattle.file_text.specs.Code.{bare, state_with, state_from, state_of, Counted, Holds, no_list, step, ItemsRead, ContentReads, TextReads, ListReads, text_nodes, root_p}
use Rattle.file_text.proofs.Nodes.{counted_none}
use Rattle.file_text.proofs.Rooms.{holds-none, holds-whole, holds-cleared, holds-size}
use Rattle.file_text.proofs.Places.{state-none}
use Rattle.file_text.proofs.Text.{out-whole, head-failed, head_at, before-fault, before-cut, root-fault, root-short, root-done}

-- ---- where nothing stands whole

none-counted : (w : WholeText) → w ≡ nothing_whole → Counted (nodes_among w.1)
unfolding nodes_among
none-counted w q = subst (λ (x : WholeText). Counted (nodes_among x.1)) (sym q) counted_none

none-holds : (w : WholeText) (m : Room) → w ≡ nothing_whole → Holds (nodes_among w.1) m m
unfolding nodes_among
none-holds w m q = subst (λ (x : WholeText). Holds (nodes_among x.1) m m) (sym q) (holds-whole [] m m (holds-none m))

none-state : (wanted place : ℕ) (w : WholeText) → w ≡ nothing_whole → no_list ≡ state_from wanted place w
none-state wanted place w q = state-none wanted place ∙ ap (state_from wanted place) (sym q)

-- ---- the slices keep their lengths

pub items-size : {wanted : ℕ} {p : Parser (List (Part Child × List ℕ))} {whole : WholeText} {place : ℕ} {s : List ℕ} {at : ℕ} {r : ListStep} {m₀ m₁ : Room}
    → ItemsRead wanted p whole place s at r m₀ m₁ → RoomFrom 0 m₀ m₁
items-size {whole = w} {m₀ = m₀} {m₁ = m₁} h = holds-size (nodes_among w.1) m₀ m₁ h.room

-- ---- ProcessList by its start tag

module _ (wanted : ℕ) (s : List ℕ) (at : ℕ) (m₀ : Room) where
  -- the start tag, as the definition reads it
  abbrev read_tag : Out Tag
  read_tag = (start_tag list_rules).run (drop at s)

  abbrev RootReads : ListStep → Room → Type 0
  RootReads r m₁ = ItemsRead wanted root_p (whole_behind read_tag) (behind_head s read_tag) s at r m₀ m₁

  later : (q : ℕ) (r : Scan) → at ≤ q → Inside 0 s q r → Inside 0 s at r
  later q (Ok e) h b = (omega (arith, b.0), b.1)
  later q (Err (Stops.Fault k e)) h b = (omega (arith, b.0), b.1)
  later q (Err Stops.Cut) h b = tt

  pub root-open : (a : List Attribute) (q : ℕ) (r : ListStep) (m₁ : Room) → Reads 1 (start_tag list_rules).run (λ i. record { attributes = a; empty = false }) s at (Ok q)
      → ContentReads wanted s q r m₀ m₁ → RootReads r m₁
  root-open a q r m₁ t h =
      let w : whole_items list_item next_flags no_flags (drop q s) ≡ whole_behind read_tag = ap whole_behind t.out in
      let p : q ≡ behind_head s read_tag = omega (arith, t.inside.1, length-drop q s) ∙ ap (behind_head s) t.out in
      record {
        parts = h.parts;
        out = h.out ∙ ap (λ (x : Out Tag). then_out x (λ tag. (list_content tag).run)) t.out;
        inside = later q r.scan (omega (arith, t.inside.0)) h.inside;
        state = h.state ∙ ap (λ (a : ℕ). state_from wanted a (whole_items list_item next_flags no_flags (drop q s))) p ∙ ap (state_from wanted (behind_head s read_tag)) w;
        counted = subst (λ (x : WholeText). Counted (nodes_among x.1)) w h.counted;
        room = subst (λ (x : WholeText). Holds (nodes_among x.1) m₀ m₁) w h.room;
      }

  -- it is empty, at fault or cut
  alone : (o : Out Tag) (r : Scan) → o ≡ read_tag → whole_behind o ≡ nothing_whole → scan_out (λ e. []) s r ≡ then_out o (λ tag. (list_content tag).run)
      → Inside 0 s at r
      → RootReads (step r no_list) m₀
  alone o r e n z b =
      let w : whole_behind read_tag ≡ nothing_whole = ap whole_behind (sym e) ∙ n in
      record {
        parts = [];
        out = z ∙ ap (λ (x : Out Tag). then_out x (λ tag. (list_content tag).run)) e;
        inside = b;
        state = none-state wanted (behind_head s read_tag) (whole_behind read_tag) w;
        counted = none-counted (whole_behind read_tag) w;
        room = none-holds (whole_behind read_tag) m₀ w;
      }

  pub root-empty : (a : List Attribute) (q : ℕ) → Reads 1 (start_tag list_rules).run (λ i. record { attributes = a; empty = true }) s at (Ok q) → RootReads (step (Ok q) no_list) m₀
  root-empty a q t = alone (done (record { attributes = a; empty = true }) (drop q s)) (Ok q) t.out refl refl (omega (arith, t.inside.0), t.inside.1)

  pub root-stop : (value : ℕ → Tag) (x : Stop) → Reads 1 (start_tag list_rules).run value s at (Err x) → RootReads (step (Err x) no_list) m₀
  root-stop value (Stops.Fault k q) t = alone (fault k (drop q s)) (Err (Stops.Fault k q)) t.out refl refl t.inside
  root-stop value Stops.Cut t = alone cut (Err Stops.Cut) t.out refl refl tt

-- ---- the whole text

head-whole : (s : List ℕ) (o : Out Tag) → head.run s ≡ o → whole_text s ≡ whole_behind o
unfolding whole_text
head-whole s o q = ap whole_behind q

head-place : (s : List ℕ) (o : Out Tag) → head.run s ≡ o → content_place s ≡ behind_head s o
unfolding content_place
head-place s o q = ap (behind_head s) q

state-is : (wanted : ℕ) (s : List ℕ) (place : ℕ) (w : WholeText) → content_place s ≡ place → whole_text s ≡ w → state_from wanted place w ≡ state_of wanted s
unfolding state_of
state-is wanted s place w p q = ap (λ (a : ℕ). state_from wanted a w) (sym p) ∙ ap (state_from wanted (content_place s)) (sym q)

module _ (wanted : ℕ) (s : List ℕ) (m₀ : Room) where
  -- the root is not found
  lost : (r : Scan) (o : Out (Unit {0})) → before_root s ≡ o → whole_behind (then_out o (λ u. (start_tag list_rules).run)) ≡ nothing_whole → scan_out (λ e. whole_nodes s) s r ≡ text_nodes s → Inside 0 s 0 r
      → TextReads wanted s (step r no_list) m₀ m₀
  unfolding state_of
  lost r o q n z b =
      let w : whole_text s ≡ nothing_whole = head-whole s _ (head-failed s o q) ∙ n in
      record { out = z; inside = b; state = none-state wanted (content_place s) (whole_text s) w; counted = none-counted (whole_text s) w; room = none-holds (whole_text s) m₀ w }

  pub no-root : (x : Stop) → Reads 1 before_root no_value s 0 (Err x) → TextReads wanted s (step (Err x) no_list) m₀ m₀
  no-root (Stops.Fault k q) h = lost (Err (Stops.Fault k q)) (fault k (drop q s)) (sym h.out) refl (sym (before-fault s k (drop q s) (sym h.out))) h.inside
  no-root Stops.Cut h = lost (Err Stops.Cut) cut (sym h.out) refl (sym (before-cut s (sym h.out))) tt

  module _ (e : ℕ) (h : Reads 1 before_root no_value s 0 (Ok e)) (m₁ : Room) where
    found : before_root s ≡ done tt (drop e s)
    found = sym h.out

    abbrev RootRead : ListStep → Type 0
    RootRead r = ItemsRead wanted root_p (whole_behind ((start_tag list_rules).run (drop e s))) (behind_head s ((start_tag list_rules).run (drop e s))) s e r m₀ m₁

    -- by what stands behind the root
    behind : (v : ListStep) (r : Scan) → RootRead v → (l : List Element) → scan_out (λ q. l) s r ≡ text_nodes s → Inside 0 s 0 r → TextReads wanted s (step r v.state) m₀ m₁
    behind v r g l z b =
        let q : head.run s ≡ (start_tag list_rules).run (drop e s) = head_at s (drop e s) found in
        let w : whole_text s ≡ whole_behind ((start_tag list_rules).run (drop e s)) = head-whole s _ q in
        record {
          out = out-whole s l r z;
          inside = b;
          state = g.state ∙ state-is wanted s _ _ (head-place s _ q) w;
          counted = subst (λ (x : WholeText). Counted (nodes_among x.1)) (sym w) g.counted;
          room = subst (λ (x : WholeText). Holds (nodes_among x.1) m₀ m₁) (sym w) g.room;
        }

    failed-go : (x : Stop) (y : ListState) → RootRead (step (Err x) y) → TextReads wanted s (step (Err x) y) m₀ m₁
    failed-go (Stops.Fault k q) y v =
        behind (step (Err (Stops.Fault k q)) y) (Err (Stops.Fault k q)) v [] (sym (root-fault s (drop e s) found k (drop q s) (sym v.out))) (omega arith, v.inside.1)
    failed-go Stops.Cut y v = behind (step (Err Stops.Cut) y) (Err Stops.Cut) v [] (sym (root-short s (drop e s) found (sym v.out))) tt

    pub root-failed : (x : Stop) (r : ListStep) → r.scan ≡ Err x → RootRead r → TextReads wanted s r m₀ m₁
    root-failed x r q v =
        subst (λ (y : Scan). TextReads wanted s (step y r.state) m₀ m₁) (sym q) (failed-go x r.state (subst (λ (y : Scan). RootRead (step y r.state)) q v))

    whole : (q : ℕ) (x : ListState) (t : Scan) → RootRead (step (Ok q) x) → ReadsFrom 0 tail no_value s q t → TextReads wanted s (step t x) m₀ m₁
    whole q x t v z = by t z.out (z.inside v.inside.1)
      where
        text : (o : Out (Unit {0})) → o ≡ tail (drop q s) → then_out o (λ u r. done (nodes_among v.parts) r) ≡ text_nodes s
        text o y = ap (λ (a : Out (Unit {0})). then_out a (λ u r. done (nodes_among v.parts) r)) y ∙ sym (root-done s (drop e s) found v.parts (drop q s) (sym v.out))

        by : (r : Scan) → scan_out no_value s r ≡ tail (drop q s) → Inside 0 s q r → TextReads wanted s (step r x) m₀ m₁
        by (Ok i) y b = behind (step (Ok q) x) (Ok i) v (nodes_among v.parts) (text (done tt (drop i s)) y) (omega arith, b.1)
        by (Err (Stops.Fault k i)) y b = behind (step (Ok q) x) (Err (Stops.Fault k i)) v (nodes_among v.parts) (text (fault k (drop i s)) y) (omega arith, b.1)
        by (Err Stops.Cut) y b = behind (step (Ok q) x) (Err Stops.Cut) v (nodes_among v.parts) (text cut y) tt

    pub text-whole : (q : ℕ) (r : ListStep) (t : Scan) → r.scan ≡ Ok q → RootRead r → ReadsFrom 0 tail no_value s q t → TextReads wanted s (step t r.state) m₀ m₁
    text-whole q r t y v z = whole q r.state t (subst (λ (d : Scan). RootRead (step d r.state)) y v) z

-- ---- the rest of the room cleared

used-is : (wanted : ℕ) (s : List ℕ) (st : ListState) → st ≡ state_of wanted s → st.used ≡ Lists.capped (Lists.total (bare (whole_nodes s)))
unfolding state_of state_from state_with
used-is wanted s st e = ap (λ (x : ListState). x.used) e

module _ (wanted : ℕ) (s : List ℕ) (r : ListStep) (m₀ m₁ m₂ : Room) (k n : ℕ) (h : TextReads wanted s r m₀ m₁) (e : k ≡ min r.state.used Lists.most_numbers) (q : n ≡ room_length m₁)
    (z : m₂ ≡ cleared_in k n m₁) where
  cleared : m₂ ≡ cleared_from (min r.state.used Lists.most_numbers) m₁
  cleared = z ∙ ap (λ (a : ℕ). cleared_in a n m₁) e ∙ ap (λ (a : ℕ). cleared_in (min r.state.used Lists.most_numbers) a m₁) q

  pub list-reads : ListReads wanted s r m₀ m₂
  list-reads = record {
    out = h.out;
    inside = h.inside;
    state = h.state;
    counted = h.counted;
    room = cleared ∙ holds-cleared (whole_nodes s) r.state.used m₀ m₁ h.counted (used-is wanted s r.state h.state) h.room;
  }

  pub list-room : RoomFrom 0 m₀ m₂
  list-room =
      from-trans 0 m₀ m₁ m₂ (holds-size (whole_nodes s) m₀ m₁ h.room)
      (subst (λ (m : Room). RoomFrom 0 m₁ m) (sym cleared) (from-cleared 0 (min r.state.used Lists.most_numbers) m₁ (omega arith)))
