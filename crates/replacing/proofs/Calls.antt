-- What a replacing call answers, by the steps of the code: 16, 19, 4, then the element's own fault. Assumes nothing.
use mathlib.Core.Path.{◌≡◌, refl, sym, ap, ◌∙◌, subst}
use mathlib.Core.Bool.{Bool, true, false, cond, ◌&&◌}
use mathlib.Core.List.{List, [], ◌∷◌}
use Prim.Native.Nat.{ℕ, ◌-◌, ◌≤◌, ◌<◌}
use native.Mathlib.Omega.{arith}
use lib.Dec.{ltb, leb}
use lib.ListN.{length, drop, length-drop, length-map}
use lib.Seq.{set-get_or}
use borrow.Author.Tests.{lt-ltb, le-ltb, ltb-false, le-leb, lt-leb}
use Rattle.grammar.specs.Parse.{done}
use Rattle.grammar.specs.Laws.{nope}
use Rattle.process_list.specs.declared.Node.{Node}
use Rattle.process_list.specs.declared.ProcessList.{ProcessList}
use Rattle.process_list.specs.File.{kept_numbers}
use Rattle.process_list.specs.List as Lists
use Rattle.process_list.specs.List.{Element}
use Rattle.process_list.proofs.Files.{kept-at}
use Rattle.room.specs.Room.{Room, room_length}
use Rattle.valid.specs.Valid.{is_valid}
use Rattle.valid.specs.Valid as Valid
use Rattle.std.specs.Prelude.{Ok, Err}
use Rattle.xml.specs.declared.Stop.{Stop}
use Rattle.xml.specs.declared.Stop.TheVariants as Stops
use Rattle.clf.specs.Reading.{most_bytes, place_in, is_numbered}
use Rattle.node_parts.specs.declared.NodeRead.{NodeRead}
use Rattle.reading.specs.declared.Refused.{Refused}
use Rattle.reading.specs.Code.{refused_at, refused_stop, judged_length}
use Rattle.look.specs.Replacing.{element, by_element, replace, Call, plain_call, numbered_call, is_late, call}
use Rattle.look.specs.Replacing as Replacing
use Rattle.look.specs.Look.{Look, with_kept, holding, call_in, look_after}
use Rattle.replacing.specs.Code.{replacing_answer, Outcome, AnswersWith, look_of, Replaced, ReplacedKeeping, node_refusal}
use Rattle.replacing.specs.Code.{KeptAt, kept_with, OnNode, ElementAlone, ElementJudged, Callable}

-- 'Any other refusal changes nothing'
pub leaves-refused : (l : ProcessList) (m : Room) (c : Call) (a : Replacing.Replacing) (n i : ℕ) → a ≡ Replacing.refused n i → AnswersWith a (look_after (look_of l m) c a) (refused_at n i) l m
unfolding replacing_answer
leaves-refused l m c a n i e =
    subst (λ (b : Replacing.Replacing). AnswersWith b (look_after (look_of l m) c b) (refused_at n i) l m) (sym e) (record { answer = refl; list = refl; room = refl })

-- ---- 16, 19

module _ (valid : Bool) (count k : ℕ) where
  pub fault-invalid : valid ≡ false → 16 ≡ node_refusal valid count k
  unfolding node_refusal
  fault-invalid v = rw v refl

  module _ (v : valid ≡ true) where
    pub fault-none : k ≡ 0 → 19 ≡ node_refusal valid count k
    unfolding node_refusal
    fault-none z = rw (v, z) refl

    pub fault-beyond : count < k → 19 ≡ node_refusal valid count k
    unfolding node_refusal
    fault-beyond h = rw v (simp (lt-leb _ _ h) (by (ltb 0 k)))
      where
        by : (b : Bool) → ◌≡◌ {A = ℕ} 19 (cond (b && false) 0 19)
        by true = refl
        by false = refl

    pub fault-well : (k ≡ 0 → ⊥) → k ≤ count → 0 ≡ node_refusal valid count k
    unfolding node_refusal
    fault-well f h =
        let n : (ltb 0 k && leb k count) ≡ true = simp (lt-ltb 0 k (omega arith), le-leb _ _ h) in
        rw (v, n) refl

module _ (l : ProcessList) (m : Room) where
  abbrev x : Look
  x = look_of l m

  abbrev room : ℕ
  room = room_length m

  abbrev es : List Element
  es = Valid.elements_of l m

  pub elements-length : length es ≡ length (Lists.nodes_of l)
  unfolding Valid.elements_of
  elements-length = length-map (Lists.nodes_of l) (Valid.element_of m)

  -- ---- a call of either kind: 16, 19, 28, 4, then its element

  module _ (c : Call) where
    abbrev said : Bool → Bool → Bool → Bool → Replacing.Replacing
    said v y n g =
        cond v
        (cond (y && n) (Replacing.refused 28 0) (cond n (cond g (Replacing.refused 4 0) (by_element room es c.node c.element (element.run c.element))) (Replacing.refused 19 0)))
        (Replacing.refused 16 0)

    abbrev N : Bool
    N = is_numbered c.node (length (Lists.nodes_of l))

    abbrev Y : Bool
    Y = is_late (kept_with l c.node) c.numbering

    abbrev G : Bool
    G = ltb most_bytes (length c.element)

    said-is : call_in x c ≡ said (is_valid l m) Y N G
    unfolding call_in call replace
    said-is = ap (λ (n : ℕ). said (is_valid l m) Y (is_numbered c.node n) G) elements-length

    -- one that is refused before its number and its element are looked at
    pub call-refused : (why : Refused) → KeptAt l m c.node (Err why) → Replaced l m c (Err why) l m
    unfolding node_refusal
    call-refused why h = rw h.0 (leaves-refused l m c (call_in x c) R 0 (said-is ∙ by R h.1 (is_valid l m) Y N refl))
      where
        R : ℕ
        R = node_refusal (is_valid l m) (length (Lists.nodes_of l)) c.node

        by : (r : ℕ) → (r ≡ 0 → ⊥) → (v y n : Bool) → r ≡ cond v (cond n 0 19) 16 → said v y n G ≡ Replacing.refused r 0
        by r z true y true q = absurd (z q)
        by r z true true false q = ap (λ (n : ℕ). Replacing.refused n 0) (sym q)
        by r z true false false q = ap (λ (n : ℕ). Replacing.refused n 0) (sym q)
        by r z false y n q = ap (λ (n : ℕ). Replacing.refused n 0) (sym q)

  -- ---- 16 and 19, or the number that is kept

  module _ (k : ℕ) where
    refused-so : (r : ℕ) → (r ≡ 0 → ⊥) → r ≡ node_refusal (is_valid l m) (length (Lists.nodes_of l)) k → KeptAt l m k (refused_at r 0)
    refused-so r z q = (ap (λ (n : ℕ). record { number = n; place = 0 }) q, λ y. z (q ∙ y))

    pub kept-invalid : is_valid l m ≡ false → KeptAt l m k (refused_at 16 0)
    kept-invalid v = refused-so 16 (λ z. omega arith) (fault-invalid _ _ _ v)

    pub kept-zero : is_valid l m ≡ true → k ≡ 0 → KeptAt l m k (refused_at 19 0)
    kept-zero v z = refused-so 19 (λ z. omega arith) (fault-none _ _ _ v z)

    pub kept-beyond : is_valid l m ≡ true → length (Lists.nodes_of l) < k → KeptAt l m k (refused_at 19 0)
    kept-beyond v h = refused-so 19 (λ z. omega arith) (fault-beyond _ _ _ v h)

    pub kept-there : is_valid l m ≡ true → (k ≡ 0 → ⊥) → k ≤ length (Lists.nodes_of l) → length l.nodes ≡ Lists.most_nodes → (n : Node) → n ≡ Lists.node_at l (k - 1) → KeptAt l m k (Ok n.newest)
    kept-there v f h a n q = (
      record { valid = v; array = a; there = record { first = omega arith; last = h } },
      ap (λ (n : Node). n.newest) q ∙ sym (kept-at l (k - 1) (omega (arith, h))),
    )

  module _ (k : ℕ) (e : List ℕ) (o : OnNode l m k) where
    on-node : is_numbered k (length (Lists.nodes_of l)) ≡ true
    on-node = simp (lt-ltb 0 k o.there.first, le-leb k (length (Lists.nodes_of l)) o.there.last)

    said-on : (c : Call) → c.node ≡ k → call_in x c ≡ said c true (Y c) true (G c)
    said-on c q =
        said-is c ∙ ap (λ (v : Bool). said c v (Y c) (N c) (G c)) o.valid
        ∙ ap (λ (n : Bool). said c true (Y c) n (G c)) (ap (λ (j : ℕ). is_numbered j (length (Lists.nodes_of l))) q ∙ on-node)

    -- ---- 28, 'late exactly if that is not larger'

    pub call-late : (n : ℕ) → n ≤ kept_with l k → Replaced l m (numbered_call k n e) (refused_at 28 0) l m
    call-late n h =
        let c : Call = numbered_call k n e in
        leaves-refused l m c (call_in x c) 28 0 (said-on c refl ∙ ap (λ (y : Bool). said c true y true (G c)) (le-leb n (kept_with l k) h))

    -- 'any other answers as an unnumbered one does'
    newer : (n : ℕ) → kept_with l k < n → call_in x (plain_call k e) ≡ call_in x (numbered_call k n e)
    newer n h =
        let c : Call = numbered_call k n e in
        said-on (plain_call k e) refl ∙ sym (said-on c refl ∙ ap (λ (y : Bool). said c true y true (G c)) (lt-leb n (kept_with l k) h))

    pub call-newer : (n : ℕ) → kept_with l k < n → (r : Outcome) (l₁ : ProcessList) (m₁ : Room) → ReplacedKeeping n l m k e r l₁ m₁ → Replaced l m (numbered_call k n e) r l₁ m₁
    call-newer n h r l₁ m₁ t = subst (λ (a : Replacing.Replacing). AnswersWith a (look_after x (numbered_call k n e) a) r l₁ m₁) (newer n h) t

    -- 'Unnumbered replacing leaves the kept number'
    stays : (a : Replacing.Replacing) → look_after x (numbered_call k (kept_with l k) e) a ≡ look_after x (plain_call k e) a
    stays (Replacing.replaced new) = ap (λ (ks : List ℕ). with_kept ks (holding x new)) (set-get_or (kept_numbers l) (k - 1) 0)
    stays (Replacing.refused n p) = refl

    pub call-plain : (w : ℕ) → w ≡ kept_with l k → (r : Outcome) (l₁ : ProcessList) (m₁ : Room) → ReplacedKeeping w l m k e r l₁ m₁ → Replaced l m (plain_call k e) r l₁ m₁
    call-plain w q r l₁ m₁ t =
        subst (λ (y : Look). AnswersWith (call_in x (plain_call k e)) y r l₁ m₁)
        (ap (λ (v : ℕ). look_after x (numbered_call k v e) (call_in x (plain_call k e))) q ∙ stays (call_in x (plain_call k e))) t

    -- ---- 4

    pub call-large : (w : ℕ) (why : Refused) → judged_length (length e) ≡ Err why → ReplacedKeeping w l m k e (Err why) l m
    call-large w why q = by (ltb most_bytes (length e)) refl q
      where
        by : (b : Bool) → ltb most_bytes (length e) ≡ b → cond b (refused_at {A = Unit {0}} 4 0) (Ok (tt {0})) ≡ Err why → ReplacedKeeping w l m k e (Err why) l m
        by true h q =
            let c : Call = plain_call k e in
            let z : why ≡ record { number = 4; place = 0 } = cc in
            rw z (leaves-refused l m (numbered_call k w e) (call_in x c) 4 0 (said-on c refl ∙ ap (λ (g : Bool). said c true false true g) h))
        by false h q = nope cc

    pub call-small : judged_length (length e) ≡ Ok tt → Callable l m k e
    call-small q = by (ltb most_bytes (length e)) refl q
      where
        by : (b : Bool) → ltb most_bytes (length e) ≡ b → cond b (refused_at {A = Unit {0}} 4 0) (Ok (tt {0})) ≡ Ok (tt {0}) → Callable l m k e
        by true h q = nope cc
        by false h q = record { on = o; small = ltb-false most_bytes (length e) h }

  module _ (k : ℕ) (e : List ℕ) where
    -- it answers by its element
    pub by-element : Callable l m k e → call_in x (plain_call k e) ≡ by_element room es k e (element.run e)
    by-element h =
        let c : Call = plain_call k e in
        said-on k e h.on c refl ∙ ap (λ (g : Bool). said c true false true g) (le-ltb most_bytes (length e) h.small)

    -- ---- the element's own fault

    pub call-judged : (w : ℕ) → Callable l m k e → (why : Refused) → ElementJudged e (Err why) → ReplacedKeeping w l m k e (Err why) l m
    call-judged w h why j = leaves-refused l m (numbered_call k w e) (call_in x (plain_call k e)) why.number why.place (by-element h ∙ j room es k)

-- ---- the element by its reading

module _ (e : List ℕ) where
  behind : (room : ℕ) (es : List Element) (k : ℕ) (v : Element) (r : List ℕ) → 0 < length r → by_element room es k e (done v r) ≡ Replacing.refused 20 (place_in e r)
  behind room es k v [] h = absurd (omega arith)
  behind room es k v (b ∷ r) h = refl

  -- bytes behind it
  pub element-behind : (n : NodeRead) → ElementAlone e (Ok n) → n.end < length e → ElementJudged e (refused_at 20 n.end)
  element-behind n a h room es k =
      let w : place_in e (drop n.end e) ≡ n.end = omega (arith, length-drop n.end e) in
      ap (by_element room es k e) (sym a.reads.out) ∙ behind room es k a.reads.value (drop n.end e) (simp length-drop (omega arith)) ∙ ap (Replacing.refused 20) w

  none : (r : List ℕ) → length r ≡ 0 → r ≡ []
  none [] h = refl
  none (b ∷ r) h = absurd (omega arith)

  -- it is whole
  pub element-whole : (n : NodeRead) → ElementAlone e (Ok n) → length e ≤ n.end → ElementJudged e (Ok n.node)
  element-whole n a h = record {
    value = a.reads.value;
    out = sym a.reads.out ∙ ap (done a.reads.value) (none (drop n.end e) (simp length-drop (omega arith)));
    is = a.reads.node;
    all = a.reads.all;
  }

  -- its own fault
  pub element-stop : (x : Stop) → ElementAlone e (Err x) → ElementJudged e (Err (refused_stop (length e) x))
  element-stop (Stops.Fault j p) a room es k =
      let w : place_in e (drop p e) ≡ p = omega (arith, length-drop p e, a.reads.inside.1) in ap (by_element room es k e) (sym a.reads.out) ∙ ap (Replacing.refused j) w
  element-stop Stops.Cut a room es k = ap (by_element room es k e) (sym a.reads.out)
