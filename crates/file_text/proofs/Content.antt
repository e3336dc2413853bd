-- The loop over ProcessList's content. Assumes nothing.
use Rattle.process_list.specs.List.{Element, all_numbers}
use mathlib.Core.Path.{◌≡◌, refl, sym, ap, ◌∙◌, subst}
use mathlib.Core.List.{List, [], ◌∷◌, ◌++◌}
use Prim.Native.Nat.{ℕ, ◌+◌, ◌≤◌, ◌<◌}
use native.Mathlib.Omega.{arith}
use lib.ListN.{length, drop}
use Rattle.grammar.specs.Parse.{done, fault, cut, again}
use Rattle.grammar.specs.Grammar.{whole_items}
use Rattle.grammar.specs.Laws.{nope}
use Rattle.grammar.specs.Splice.{flat}
use Rattle.xml.specs.Bytes.{bytes}
use Rattle.xml.specs.Xml.{end_tag}
use Rattle.xml.specs.Elements.{Part, misc, child, close, between}
use Rattle.xml.specs.Code.{Scan}
use Rattle.std.specs.Prelude.{Result, Ok, Err}
use Rattle.xml.specs.declared.Stop.{Stop}
use Rattle.xml.specs.declared.Stop.TheVariants as Stops
use Rattle.xml.specs.Code.{scan_out, Inside, Reads, no_value, part}
use Rattle.process_list.specs.List as Lists
use Rattle.room.specs.Room.{Room, laid_in}
use Rattle.room.proofs.Rooms.{RoomFrom, from-refl, from-trans}
use Rattle.markup.specs.Items.{ItemReads}
use Rattle.markup.specs.Next.{Passed, NextReads}
use Rattle.markup.specs.declared.Halt.{Halt}
use Rattle.markup.proofs.Next.{passed-keeps}
use Rattle.markup.specs.declared.Item.TheVariants as Items
use Rattle.markup.specs.Between.{between-misc, between-fault, between-cut, between-refused, between-child, between-child-fault, between-child-cut, between-end-reads}
use Rattle.tags.specs.Code.{part_in}
use Rattle.tags.proofs.Words.{part_in_lem}
use Rattle.clf.specs.List.{Child, Flags, no_flags, child_fault, child_body, list_item, next_flags}
use Rattle.clf.specs.Reading.{nodes_among, with_child}
use Rattle.clf.specs.Whole.{WholeText}
use Rattle.process_list.specs.declared.ProcessList.{ProcessList}
use Rattle.file_text.specs.declared.ListState.{ListState}
use Rattle.file_text.specs.declared.Progress.{Progress}
use Rattle.file_text.specs.declared.FoundChild.{FoundChild}
use Rattle.file_text.specs.declared.ChildRead.{ChildRead}
use Rattle.file_text.specs.Code.{bare, state_from, state_with, Counted, Holds, flags_of, state_by, no_progress, step, behind_child, list_with, found_child, child_end, ChildReads, refused, read, ContentReads}
use Rattle.file_text.proofs.Nodes.{counted_none, counted-both}
use Rattle.file_text.proofs.Rooms.{from_less, holds-none, holds_more, holds-failed, holds-whole, holds-size}
use Rattle.file_text.proofs.Places.{nodes-misc, nodes-child, state-none, state-misc, state-child, flags-child}
use Rattle.file_text.proofs.Children.{child-room}
use Rattle.file_text.proofs.Items.{on_items, whole_from, item_at, items-on, items-end, items-bad, items-short, whole-on, whole-end, whole-bad, whole-short, item-length, flat-more}

-- what has been read of the content up to i: the items, each with its bytes
pub record ContentInv (wanted : ℕ) (s : List ℕ) (at i : ℕ) (list : ProcessList) (p : Progress) (m₀ m : Room) : Type 0 where
  pub parts : List (Part Child × List ℕ)
  pub place : i ≡ at + length (flat parts)
  pub run : on_items [] no_flags (drop at s) ≡ on_items parts (flags_of p) (drop i s)
  pub whole : whole_from [] no_flags (drop at s) ≡ whole_from parts (flags_of p) (drop i s)
  pub state : state_by list p ≡ state_from wanted at (flags_of p, parts)
  pub counted : Counted (nodes_among parts)
  pub room : RoomFrom Lists.most_numbers (laid_in 0 (all_numbers (nodes_among parts)) m₀) m

pub content-start : (wanted : ℕ) (s : List ℕ) (at : ℕ) (m : Room) → ContentInv wanted s at at (Lists.list_of []) no_progress m m
unfolding nodes_among
content-start wanted s at m = record {
  parts = [];
  place = omega arith;
  run = refl;
  whole = refl;
  state = state-none wanted at;
  counted = counted_none;
  room = holds-none m;
}

item-is : (st : Flags) (u : List ℕ) → (list_item st).run u ≡ (between (end_tag (bytes "ProcessList") 0) (child_fault st) child_body).run u
unfolding list_item
item-is st u = refl

used-is : (wanted at : ℕ) (fl : Flags) (l : List (Part Child × List ℕ)) (st : ListState) → st ≡ state_from wanted at (fl, l) → st.used ≡ Lists.capped (Lists.total (bare (nodes_among l)))
unfolding state_from state_with
used-is wanted at fl l st e = ap (λ (x : ListState). x.used) e

module _ (wanted : ℕ) (s : List ℕ) (at i : ℕ) (list : ProcessList) (p : Progress) (m₀ m : Room) (v : ContentInv wanted s at i list p m₀ m) where
  abbrev fl : Flags
  fl = flags_of p

  abbrev now : WholeText
  now = (flags_of p, v.parts)

  used : p.used ≡ Lists.capped (Lists.total (bare (nodes_among v.parts)))
  used = used-is wanted at fl v.parts (state_by list p) v.state

  -- it ends here: what stands whole is what has been read
  ended : (parts : List (Part Child × List ℕ)) (r : Scan) (m₁ : Room) → scan_out (λ e. parts) s r ≡ on_items v.parts fl (drop i s) → whole_from v.parts fl (drop i s) ≡ now
      → Inside 0 s at r → RoomFrom p.used m m₁ → ContentReads wanted s at (step r (state_by list p)) m₀ m₁
  ended parts r m₁ z w b g =
      let e : whole_items list_item next_flags no_flags (drop at s) ≡ now = v.whole ∙ w in
      record {
        parts = parts;
        out = z ∙ sym v.run;
        inside = b;
        state = v.state ∙ ap (state_from wanted at) (sym e);
        counted = subst (λ (x : WholeText). Counted (nodes_among x.1)) (sym e) v.counted;
        room = subst (λ (x : WholeText). Holds (nodes_among x.1) m₀ m₁) (sym e) (holds-failed (nodes_among v.parts) p.used m₀ m m₁ used v.room g);
      }

  -- the slices keep their lengths
  pub content-size : RoomFrom 0 m₀ m
  content-size = holds-size (nodes_among v.parts) m₀ m (holds-whole (nodes_among v.parts) m₀ m v.room)

  pub child-size : (w : List ℕ) (e : ℕ) (r : Result ChildRead Stop) (m₁ : Room) → ChildReads s w i e p r m m₁ → RoomFrom 0 m₀ m₁
  child-size w e r m₁ h = from-trans 0 m₀ m m₁ content-size (from_less p.used 0 m m₁ (omega arith) (child-room s w i e p r m m₁ h))

  low : at ≤ i
  low = omega (arith, v.place)

  later : (r : Scan) → Inside 0 s i r → Inside 0 s at r
  later (Ok e) b = (omega (arith, low, b.0), b.1)
  later (Err (Stops.Fault k q)) b = (omega (arith, low, b.0), b.1)
  later (Err Stops.Cut) b = tt

  same : RoomFrom p.used m m
  same = from-refl p.used m

  -- the item is at fault, or the bytes end in it
  bad : (k q : ℕ) (m₁ : Room) → (list_item fl).run (drop i s) ≡ fault k (drop q s) → Inside 0 s i (Err (Stops.Fault k q))
      → RoomFrom p.used m m₁ → ContentReads wanted s at (step (Err (Stops.Fault k q)) (state_by list p)) m₀ m₁
  bad k q m₁ x b f =
      ended [] (Err (Stops.Fault k q)) m₁ (sym (items-bad v.parts fl (drop i s) k (drop q s) x)) (whole-bad v.parts fl (drop i s) k (drop q s) x) (later (Err (Stops.Fault k q)) b) f

  short : (m₁ : Room) → (list_item fl).run (drop i s) ≡ cut → RoomFrom p.used m m₁ → ContentReads wanted s at (step (Err Stops.Cut) (state_by list p)) m₀ m₁
  short m₁ x f = ended [] (Err Stops.Cut) m₁ (sym (items-short v.parts fl (drop i s) x)) (whole-short v.parts fl (drop i s) x) tt f

  -- one item more, up to e
  longer : (e : ℕ) (x : Part Child) → i < e → e ≤ length s → e ≡ at + length (flat (v.parts ++ item_at s i e x ∷ []))
  longer e x h k = omega (arith, v.place, flat-more v.parts (item_at s i e x), item-length v.parts fl s i e h k x)

  pub content-misc : (e : ℕ) → ItemReads s i (Ok (Items.Misc e)) → ContentInv wanted s at e list p m₀ m
  content-misc e l =
      let h : i < e = omega (arith, l.inside.0) in
      let x : (list_item fl).run (drop i s) ≡ done misc (drop e s) = item-is fl (drop i s) ∙ between-misc (end_tag (bytes "ProcessList") 0) (child_fault fl) child_body s i e l in
      let n : nodes_among (v.parts ++ item_at s i e misc ∷ []) ≡ nodes_among v.parts = nodes-misc v.parts (item_at s i e misc).1 in
      record {
        parts = v.parts ++ item_at s i e misc ∷ [];
        place = longer e misc h l.inside.1;
        run = v.run ∙ items-on v.parts fl s i e h l.inside.1 misc fl x refl;
        whole = v.whole ∙ whole-on v.parts fl s i e h l.inside.1 misc fl x refl;
        state = state-misc wanted at v.parts list p (item_at s i e misc).1 v.state;
        counted = subst (λ (ns : List Element). Counted ns) (sym n) v.counted;
        room = subst (λ (ns : List Element). RoomFrom Lists.most_numbers (laid_in 0 (all_numbers ns) m₀) m) (sym n) v.room;
      }

  -- there is no item
  pub content-stop : (x : Stop) → ItemReads s i (Err x) → ContentReads wanted s at (step (Err x) (state_by list p)) m₀ m
  content-stop (Stops.Fault k q) l = bad k q m (item-is fl (drop i s) ∙ between-fault (end_tag (bytes "ProcessList") 0) (child_fault fl) child_body s i k q l) l.inside same
  content-stop Stops.Cut l = short m (item-is fl (drop i s) ∙ between-cut (end_tag (bytes "ProcessList") 0) (child_fault fl) child_body s i l) same

  -- the end tag
  pub content-end : (r : Scan) → ItemReads s i (Ok Items.EndTag) → Reads 1 (end_tag (bytes "ProcessList") 0).run no_value s i r → ContentReads wanted s at (step r (state_by list p)) m₀ m
  content-end (Ok e) l h =
      let x : (list_item fl).run (drop i s) ≡ done close (drop e s) =
      item-is fl (drop i s) ∙ between-end-reads (end_tag (bytes "ProcessList") 0) (child_fault fl) child_body s i l (Ok e) h in
      ended (v.parts ++ item_at s i e close ∷ []) (Ok e) m
      (sym (items-end v.parts fl s i e (omega (arith, h.inside.0)) h.inside.1 x)) (whole-end v.parts fl s i e (omega (arith, h.inside.0)) h.inside.1 x)
      (omega (arith, low, h.inside.0), h.inside.1) same
  content-end (Err (Stops.Fault k q)) l h =
      bad k q m (item-is fl (drop i s) ∙ between-end-reads (end_tag (bytes "ProcessList") 0) (child_fault fl) child_body s i l (Err (Stops.Fault k q)) h) h.inside same
  content-end (Err Stops.Cut) l h = short m (item-is fl (drop i s) ∙ between-end-reads (end_tag (bytes "ProcessList") 0) (child_fault fl) child_body s i l (Err Stops.Cut) h) same

  -- a child, whose name ends at e
  module _ (e : ℕ) (l : ItemReads s i (Ok (Items.StartTag e))) (m₁ : Room) where
    abbrev w : List ℕ
    w = part s (i + 1) e

    -- what it may answer, by the name as the definition has it
    named : (r : Result ChildRead Stop) → ChildReads s (part_in s (i + 1) e) i e p r m m₁ → ChildReads s w i e p r m m₁
    named r h = subst (λ (x : List ℕ). ChildReads s x i e p r m m₁) (sym (part_in_lem s (i + 1) e l.inside.1)) h

    moved : (r : ChildRead) → ChildReads s w i e p (Ok r) m m₁ → (i < r.end) × (r.end ≤ length s)
    moved r (refused k f z y o) = nope cc
    moved r (read k f z b y) = (omega (arith, l.inside.0, b.0), b.1)

    -- list and progress behind a child
    abbrev After : ℕ → FoundChild → Type 0
    After q x = ContentInv wanted s at q (list_with list x) (behind_child p x list.count wanted i) m₀ m₁

    next : (r : ChildRead) → ChildReads s w i e p (Ok r) m m₁ → After r.end r.child
    next r (refused k f z y o) = nope cc
    next r (read c f z b y) =
        let q : ℕ = r.end in
        let h : i < q = omega (arith, l.inside.0, b.0) in
        let t : (list_item fl).run (drop i s) ≡ done (child c) (drop q s) =
        item-is fl (drop i s) ∙ between-child (end_tag (bytes "ProcessList") 0) (child_fault fl) child_body s i e l f c (drop q s) (sym z) in
        let n : nodes_among (v.parts ++ item_at s i q (child c) ∷ []) ≡ nodes_among v.parts ++ with_child c [] = nodes-child v.parts c (item_at s i q (child c)).1 in
        let d : Progress = behind_child p (found_child c) list.count wanted i in
        let g : next_flags fl (child c) ≡ again (flags_of d) = flags-child p list.count wanted i c in
        rw y.0 (record {
          parts = v.parts ++ item_at s i q (child c) ∷ [];
          place = longer q (child c) h b.1;
          run = v.run ∙ items-on v.parts fl s i q h b.1 (child c) (flags_of d) t g;
          whole = v.whole ∙ whole-on v.parts fl s i q h b.1 (child c) (flags_of d) t g;
          state = state-child wanted at v.parts list p i c (item_at s i q (child c)).1 v.place v.state;
          counted = subst (λ (ns : List Element). Counted ns) (sym n) (counted-both (nodes_among v.parts) (with_child c []) v.counted y.1);
          room = subst (λ (ns : List Element). RoomFrom Lists.most_numbers (laid_in 0 (all_numbers ns) m₀) m₁) (sym n)
              (subst (λ (a : Room). RoomFrom Lists.most_numbers (laid_in 0 (all_numbers (nodes_among v.parts ++ with_child c [])) m₀) a) (sym y.2)
              (holds_more (nodes_among v.parts) (with_child c []) p.used m₀ m v.counted used v.room));
        })

    failed : (x : Stop) → ChildReads s w i e p (Err x) m m₁ → ContentReads wanted s at (step (Err x) (state_by list p)) m₀ m₁
    failed x (refused k f z y o) =
        subst (λ (d : Result ChildRead Stop). ContentReads wanted s at (step (child_end d) (state_by list p)) m₀ m₁) (sym y)
        (bad k i m₁ (item-is fl (drop i s) ∙ between-refused (end_tag (bytes "ProcessList") 0) (child_fault fl) child_body s i e l k f z)
        (omega arith, omega (arith, l.inside)) (subst (λ (d : Room). RoomFrom p.used m d) (sym o) same))
    failed (Stops.Fault j q) (read k f z b y) =
        bad j q m₁ (item-is fl (drop i s) ∙ between-child-fault (end_tag (bytes "ProcessList") 0) (child_fault fl) child_body s i e l f j (drop q s) (sym z))
        (omega (arith, l.inside.0, b.0), b.1) y
    failed Stops.Cut (read k f z b y) =
        short m₁ (item-is fl (drop i s) ∙ between-child-cut (end_tag (bytes "ProcessList") 0) (child_fault fl) child_body s i e l f (sym z)) y

    pub content-child : (r : ChildRead) (list₁ : ProcessList) (p₁ : Progress) → ChildReads s (part_in s (i + 1) e) i e p (Ok r) m m₁
        → p₁ ≡ behind_child p r.child list.count wanted i → list₁ ≡ list_with list r.child → ContentInv wanted s at r.end list₁ p₁ m₀ m₁
    content-child r list₁ p₁ h x y = rw (x, y) (next r (named (Ok r) h))

    -- behind a child there are fewer bytes
    pub content-moves : (r : ChildRead) → ChildReads s (part_in s (i + 1) e) i e p (Ok r) m m₁ → (i < r.end) × (r.end ≤ length s)
    content-moves r h = moved r (named (Ok r) h)

    pub content-failed : (x : Stop) → ChildReads s (part_in s (i + 1) e) i e p (Err x) m m₁ → ContentReads wanted s at (step (Err x) (state_by list p)) m₀ m₁
    content-failed x h = failed x (named (Err x) h)

-- ---- behind white space and comments

module _ (wanted : ℕ) (s : List ℕ) (at i : ℕ) (list : ProcessList) (p : Progress) (m₀ m : Room) (v : ContentInv wanted s at i list p m₀ m) where
  pub content-on : {j : ℕ} → Passed s i j → ContentInv wanted s at j list p m₀ m
  content-on w = passed-keeps s i (λ j. ContentInv wanted s at j list p m₀ m) (λ j e x l. content-misc wanted s at j list p m₀ m x e l) v w

  -- what stands there is no tag
  pub content-none : (h : Halt) → NextReads s i (Err h) → ContentReads wanted s at (step (Err h.stop) (state_by list p)) m₀ m
  content-none h n = content-stop wanted s at h.at list p m₀ m (content-on n.passed) h.stop n.reads
