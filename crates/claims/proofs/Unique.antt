-- No id was seen on an earlier node exactly if any two nodes of one id have none. Assumes nothing.
use mathlib.Core.Path.{◌≡◌, refl, sym, ap, ◌∙◌}
use mathlib.Core.Bool.{Bool, true, false, cond, ◌&&◌, ◌||◌}
use mathlib.Core.List.{List, [], ◌∷◌, ◌++◌, map, append-nil}
use Prim.Native.Nat.{ℕ, zero, suc, ◌+◌, ◌<◌}
use native.Mathlib.Omega.{arith}
use lib.Dec.{eqb, eqb-suc-zero}
use lib.ListN.{length, take, get_or, length-map, get_or-map}
use lib.Seq.{append_snoc, get_or-take, length-take-le}
use Rattle.grammar.specs.Laws.{nope}
use Rattle.xml.specs.Bytes.{same}
use Rattle.ids.specs.Ids.{held_id, no_id, id_allowed, id_text, is_given, is_among, repeats}
use Rattle.ids.proofs.Laws.{text-held}
use Rattle.process_list.specs.declared.Node.{Node}
use Rattle.process_list.specs.List.{Element, node_of, unplaced, blank_element, ids_of, first_repeat}
use Rattle.valid.specs.Valid.{every, sound}
use Rattle.valid.proofs.Readings.{same_self, same-only, sound-id}
use Rattle.claims.specs.Rules.{id_at, Unique}

-- ---- ids in their places

-- whether the id of index j was seen: among those before all, or among those before it
abbrev seen_at : List (List ℕ) → List (List ℕ) → ℕ → Bool
seen_at before ids j = is_given (get_or ids j []) && is_among (get_or ids j []) (before ++ take j ids)

none_seen : (k : ℕ) (before ids : List (List ℕ)) → 0 < k → repeats k before ids ≡ 0 → (j : ℕ) → j < length ids → seen_at before ids j ≡ false
unfolding repeats
none_seen k before [] p e j h = absurd (omega arith)
none_seen k before (id ∷ ids) p e j h = go (is_given id && is_among id before) refl e j h (none_seen (k + 1) (before ++ (id ∷ [])) ids (omega arith))
  where
    go : (b : Bool) → (is_given id && is_among id before) ≡ b → cond b k (repeats (k + 1) (before ++ (id ∷ [])) ids) ≡ 0 → (j : ℕ) → j < length (id ∷ ids)
        → (repeats (k + 1) (before ++ (id ∷ [])) ids ≡ 0 → (i : ℕ) → i < length ids → seen_at (before ++ (id ∷ [])) ids i ≡ false) → seen_at before (id ∷ ids) j ≡ false
    go true q e j h f = absurd (omega arith)
    go false q e zero h f = rw (append-nil before) q
    go false q e (suc i) h f = rw (append_snoc before id (take i ids)) at (f e i (omega arith))

all_new : (k : ℕ) (before ids : List (List ℕ)) → ((j : ℕ) → j < length ids → seen_at before ids j ≡ false) → repeats k before ids ≡ 0
unfolding repeats
all_new k before [] f = refl
all_new k before (id ∷ ids) f =
    let n : (is_given id && is_among id before) ≡ false = rw (append-nil before) at (f zero (omega arith)) in
    rw n (all_new (k + 1) (before ++ (id ∷ [])) ids (λ j h. rw (append_snoc before id (take j ids)) (f (suc j) (omega arith))))

among-at : (id : List ℕ) (ids : List (List ℕ)) (i : ℕ) → i < length ids → id ≡ get_or ids i [] → is_among id ids ≡ true
unfolding is_among
among-at id [] i h e = absurd (omega arith)
among-at id (x ∷ ids) zero h e = rw (← e, same_self id) refl
among-at id (x ∷ ids) (suc i) h e = go (same id x) (among-at id ids i (omega arith) e)
  where
    go : (b : Bool) → is_among id ids ≡ true → (b || is_among id ids) ≡ true
    go true q = refl
    go false q = q

among-some : (id : List ℕ) (ids : List (List ℕ)) → is_among id ids ≡ true → (i : ℕ) × (i < length ids) × (id ≡ get_or ids i [])
unfolding is_among
among-some id [] q = nope cc
among-some id (x ∷ ids) q = go (same id x) refl q (among-some id ids)
  where
    go : (b : Bool) → same id x ≡ b → (b || is_among id ids) ≡ true → (is_among id ids ≡ true → (i : ℕ) × (i < length ids) × (id ≡ get_or ids i [])) → (i : ℕ) × (i < length (x ∷ ids)) × (id ≡ get_or (x ∷ ids) i [])
    go true e q f = (zero, omega arith, same-only id x e)
    go false e q f = let t = f q in (suc t.0, omega (arith, t.1), t.2)

-- ---- of elements

-- the ids of the list
abbrev held_ids : List Element → List (List ℕ)
held_ids es = map (λ (e : Element). held_id e.id) es

ids-are : (es : List Element) → ids_of (map node_of es) ≡ held_ids es
unfolding ids_of node_of unplaced
ids-are [] = refl
ids-are (e ∷ es) = ap (λ (l : List (List ℕ)). held_id e.id ∷ l) (ids-are es)

first-is : (es : List Element) → first_repeat (map node_of es) ≡ repeats 1 [] (held_ids es)
unfolding first_repeat
first-is es = ap (repeats 1 []) (ids-are es)

held_at : (es : List Element) (i : ℕ) → i < length es → get_or (held_ids es) i [] ≡ held_id (id_at es i)
held_at [] i h = absurd (omega arith)
held_at (e ∷ es) zero h = refl
held_at (e ∷ es) (suc i) h = held_at es i (omega arith)

allowed_at : (es : List Element) → every sound es ≡ true → (i : ℕ) → i < length es → id_allowed (id_at es i) ≡ true
unfolding every
allowed_at [] p i h = absurd (omega arith)
allowed_at (e ∷ es) p i h = go (sound e) refl p i h (allowed_at es)
  where
    go : (b : Bool) → sound e ≡ b → (b && every sound es) ≡ true → (i : ℕ) → i < length (e ∷ es) → (every sound es ≡ true → (k : ℕ) → k < length es → id_allowed (id_at es k) ≡ true)
        → id_allowed (id_at (e ∷ es) i) ≡ true
    go true q p zero h f = sound-id e q
    go true q p (suc k) h f = f p k (omega arith)
    go false q p i h f = nope cc

-- an id is there exactly if its text is not empty
given-held : (b : ℕ) (t : List ℕ) → id_allowed (b ∷ t) ≡ true → is_given (held_id (b ∷ t)) ≡ true
unfolding is_given held_id id_text
given-held zero t h = let e : id_text (held_id (zero ∷ t)) ≡ zero ∷ t = text-held (zero ∷ t) h in nope cc
given-held (suc b) t h = rw (eqb-suc-zero b) refl

none-given : is_given (held_id []) ≡ false
unfolding is_given held_id
none-given = refl

module _ (es : List Element) (p : every sound es ≡ true) where
  count : length (held_ids es) ≡ length es
  count = length-map es (λ (e : Element). held_id e.id)

  pub unique-from : first_repeat (map node_of es) ≡ 0 → Unique es
  unique-from z i j h k e = go (id_at es j) refl
    where
      here : get_or (held_ids es) j [] ≡ held_id (id_at es j)
      here = held_at es j k

      seen : seen_at [] (held_ids es) j ≡ false
      seen = none_seen 1 [] (held_ids es) (omega arith) (sym (first-is es) ∙ z) j (omega (arith, count))

      earlier : get_or (held_ids es) j [] ≡ get_or (take j (held_ids es)) i []
      earlier = here ∙ ap held_id (sym e) ∙ sym (held_at es i (omega arith)) ∙ sym (get_or-take j (held_ids es) i [] h)

      among : is_among (get_or (held_ids es) j []) (take j (held_ids es)) ≡ true
      among = among-at (get_or (held_ids es) j []) (take j (held_ids es)) i (omega (arith, count, length-take-le j (held_ids es) (omega (arith, count)))) earlier

      go : (t : List ℕ) → id_at es j ≡ t → id_at es j ≡ []
      go [] q = q
      go (b ∷ t) q =
          let a : id_allowed (b ∷ t) ≡ true = rw q at (allowed_at es p j k) in
          let g : is_given (get_or (held_ids es) j []) ≡ true = rw (here, q) (given-held b t a) in
          let y : ◌≡◌ {A = Bool} true false = rw (g, among) at seen in
          nope cc

  pub repeat-none : Unique es → first_repeat (map node_of es) ≡ 0
  repeat-none u = first-is es ∙ all_new 1 [] (held_ids es) (λ j h. new j (omega (arith, count)))
    where
      new : (j : ℕ) → j < length es → seen_at [] (held_ids es) j ≡ false
      new j k = go (is_given (get_or (held_ids es) j [])) (is_among (get_or (held_ids es) j []) (take j (held_ids es))) refl refl
        where
          go : (a b : Bool) → is_given (get_or (held_ids es) j []) ≡ a → is_among (get_or (held_ids es) j []) (take j (held_ids es)) ≡ b → (a && b) ≡ false
          go false b ea eb = refl
          go true false ea eb = refl
          go true true ea eb =
              let t = among-some (get_or (held_ids es) j []) (take j (held_ids es)) eb in
              let n = length-take-le j (held_ids es) (omega (arith, count)) in
              let i : ℕ = t.0 in
              let l : i < j = omega (arith, t.1, n) in
              let m : i < length es = omega arith in
              let q : held_id (id_at es j) ≡ held_id (id_at es i) = sym (held_at es j k) ∙ t.2 ∙ get_or-take j (held_ids es) i [] l ∙ held_at es i m in
              let r : id_at es i ≡ id_at es j = sym (text-held (id_at es i) (allowed_at es p i m)) ∙ ap id_text (sym q) ∙ text-held (id_at es j) (allowed_at es p j k) in
              let z : is_given (get_or (held_ids es) j []) ≡ false = rw (held_at es j k, u i j l k r) none-given in
              nope cc
