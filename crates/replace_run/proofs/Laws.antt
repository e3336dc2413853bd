-- What the loop of a run keeps, in tail form: the run from the start is the run of the calls that are left, from here. Assumes nothing.
use mathlib.Core.Path.{◌≡◌, refl, sym, ap, subst, ◌∙◌}
use mathlib.Core.Bool.{Bool, true, false, cond}
use mathlib.Core.List.{List, [], ◌∷◌, ◌++◌, map, append-nil}
use Prim.Native.Nat.{ℕ, suc, ◌+◌, ◌-◌, ◌≤◌, ◌<◌, min}
use native.Mathlib.Omega.{arith}
use native.Mathlib.Nat.{add-zero}
use native.Mathlib.Numerals.{add-one}
use borrow.Author.Tests.{leb-true, leb-false, lt-ltb, le-ltb}
use lib.Dec.{leb}
use lib.ListN.{length, take, drop, set, get_or, length-drop, length-map, take-append-drop, drop_of_length-le}
use lib.Seq.{drop-cons, take-suc-set, drop-set-lt, append_snoc, take_all, take-nil}
use Rattle.process_list.specs.declared.ProcessList.{ProcessList}
use Rattle.process_list.specs.File.{number_limit}
use Rattle.room.specs.Room.{Room}
use Rattle.reading.specs.Code.{number_of, place_of}
use Rattle.look.specs.Look.{Look, call_in, look_after}
use Rattle.look.specs.Replacing.{Numbering, unnumbered, numbered, Call, plain_call, numbered_call}
use Rattle.look.specs.Replacing as Replacing
use Rattle.replacing.specs.Code.{Outcome, CallAnswers, Replaced, look_of}
use Rattle.replacing.specs.Code as Replaces
use Rattle.claims.specs.LookRuns.{look_run}
use Rattle.replace_run.specs.Runs.{call_part, marked_call, calls_from, CallsRun}

-- ---- the bytes of an element
data Order (m : ℕ) (n : ℕ) : Type 0 where
  low : m ≤ n → Order m n
  high : n < m → Order m n

order : (m n : ℕ) → Order m n
order m n = go (leb m n) refl
  where
    go : (b : Bool) → leb m n ≡ b → Order m n
    go true e = low (leb-true m n e)
    go false e = high (leb-false m n e)

pub part-is : (s : List ℕ) (a b e f : ℕ) → e ≡ min b (length s) → f ≡ min a e → take (e - f) (drop f s) ≡ call_part s a b
unfolding call_part
part-is s a b e f p q = go (order b (length s)) (order a e)
  where
    go : Order b (length s) → Order a e → take (e - f) (drop f s) ≡ take (b - a) (drop a s)
    go (low h) (low k) = let u : e ≡ b = omega arith in let v : f ≡ a = omega arith in rw (u, v) refl
    go (low h) (high k) = let u : e - f ≡ 0 = omega arith in let v : b - a ≡ 0 = omega arith in rw (u, v) refl
    go (high h) (low k) =
        let u : e ≡ length s = omega arith in
        let v : f ≡ a = omega arith in
        rw (u, v) (take_all (length s - a) (drop a s) (simp length-drop (omega arith)) ∙ sym (take_all (b - a) (drop a s) (simp length-drop (omega arith))))
    go (high h) (high k) = let u : e - f ≡ 0 = omega arith in let v : length s ≤ a = omega arith in rw (u, drop_of_length-le s {i = a} v) (sym (take-nil (b - a)))

-- ---- answers stored one by one: the numbers rs stand in l from index i on
unfoldable pub wrote : ℕ → List ℕ → List ℕ → List ℕ
wrote i rs l = take i l ++ rs ++ drop (i + length rs) l

wrote-turn : (i r : ℕ) (rs l : List ℕ) → i < length l → wrote i (r ∷ rs) l ≡ wrote (i + 1) rs (set l i r)
unfolding wrote
wrote-turn i r rs l h =
    let e1 : take (i + 1) (set l i r) ≡ take i l ++ (r ∷ []) = ap (λ (n : ℕ). take n (set l i r)) (add-one i) ∙ take-suc-set l i r h in
    let e2 : drop (i + 1 + length rs) (set l i r) ≡ drop (i + 1 + length rs) l = drop-set-lt (i + 1 + length rs) l i r (omega arith) in
    let e3 : i + 1 + length rs ≡ i + suc (length rs) = omega arith in
    let e4 : take i l ++ (r ∷ []) ++ rs ≡ take i l ++ r ∷ rs = append_snoc (take i l) r rs in
    rw (e1, e2, e3, e4) refl

wrote_none : (i : ℕ) (l : List ℕ) → wrote i [] l ≡ l
unfolding wrote
wrote_none i l = rw (append-nil, add-zero) (take-append-drop i l)

abbrev Calls : Type 0
Calls = List Call

-- ---- the answers, seen as numbers by f (an answer's number or its place), are stored in a slice: from x with the calls cs and the slice a₀ to y with the calls ds and the slice a, i calls made
abbrev Stored : (Replacing.Replacing → ℕ) → Look → Calls → List ℕ → Look → Calls → ℕ → List ℕ → Type 0
Stored f x cs a₀ y ds i a = wrote 0 (map f (look_run x cs).0) a₀ ≡ wrote i (map f (look_run y ds).0) a

-- what the loop keeps
pub record Going (x : Look) (cs : Calls) (n₀ p₀ : List ℕ) (y : Look) (ds : Calls) (i : ℕ) (n p : List ℕ) : Type 0 where
  pub left : (look_run x cs).1 ≡ (look_run y ds).1
  pub numbers : Stored Replaces.replacing_number x cs n₀ y ds i n
  pub places : Stored Replaces.replacing_place x cs p₀ y ds i p

pub going_start : (x : Look) (cs : Calls) (n p : List ℕ) → Going x cs n p x cs 0 n p
going_start x cs n p = record { left = refl; numbers = refl; places = refl }

pub look_is : (y : Look) (c : Call) (r : Outcome) (l : ProcessList) (m : Room) → CallAnswers y c r l m → look_after y c (call_in y c) ≡ look_of l m
look_is y c r l m h = sym (ap (λ (z : ProcessList). look_of z m) h.list ∙ ap (look_of (look_after y c (call_in y c)).list) h.room)

told : (a : Replacing.Replacing) → (Replaces.replacing_number a ≡ number_of (Replaces.replacing_answer a)) × (Replaces.replacing_place a ≡ place_of (Replaces.replacing_answer a))
unfolding Replaces.replacing_answer
told (Replacing.replaced es) = (refl, refl)
told (Replacing.refused n p) = (refl, refl)

pub number_is : (y : Look) (c : Call) (r : Outcome) (l : ProcessList) (m : Room) → CallAnswers y c r l m
    → (Replaces.replacing_number (call_in y c) ≡ number_of r) × (Replaces.replacing_place (call_in y c) ≡ place_of r)
number_is y c r l m h = let t = told (call_in y c) in (t.0 ∙ ap number_of (sym h.answer), t.1 ∙ ap place_of (sym h.answer))

stored-turn : (f : Replacing.Replacing → ℕ) (x : Look) (cs : Calls) (a₀ : List ℕ) (y : Look) (ds : Calls) (i : ℕ) (a : List ℕ) → Stored f x cs a₀ y ds i a
    → (c : Call) (es : Calls) → ds ≡ c ∷ es → i < length a → (z : Look) → look_after y c (call_in y c) ≡ z → (n : ℕ) → f (call_in y c) ≡ n
    → Stored f x cs a₀ z es (i + 1) (set a i n)
stored-turn f x cs a₀ y ds i a g c es p h z u n v =
    g ∙ ap (λ (l : Calls). wrote i (map f (look_run y l).0) a) p
    ∙ ap (λ (l : Look). wrote i (f (call_in y c) ∷ map f (look_run l es).0) a) u
    ∙ ap (λ (k : ℕ). wrote i (k ∷ map f (look_run z es).0) a) v
    ∙ wrote-turn i n (map f (look_run z es).0) a h

going-turn : (x : Look) (cs : Calls) (n₀ p₀ : List ℕ) (y : Look) (ds : Calls) (i : ℕ) (n p : List ℕ) → Going x cs n₀ p₀ y ds i n p → (c : Call) (es : Calls) → ds ≡ c ∷ es
    → i < length n → i < length p → (r : Outcome) (l : ProcessList) (m : Room) → CallAnswers y c r l m
    → Going x cs n₀ p₀ (look_of l m) es (i + 1) (set n i (number_of r)) (set p i (place_of r))
going-turn x cs n₀ p₀ y ds i n p g c es q h k r l m t =
    let u : look_after y c (call_in y c) ≡ look_of l m = look_is y c r l m t in
    let v = number_is y c r l m t in
    record {
      left = g.left ∙ ap (λ (ds : Calls). (look_run y ds).1) q ∙ ap (λ (z : Look). (look_run z es).1) u;
      numbers = stored-turn Replaces.replacing_number x cs n₀ y ds i n g.numbers c es q h (look_of l m) u (number_of r) v.0;
      places = stored-turn Replaces.replacing_place x cs p₀ y ds i p g.places c es q k (look_of l m) u (place_of r) v.1;
    }

-- ---- the end of the loop
pub length-answers : (x : Look) (cs : Calls) → length (look_run x cs).0 ≡ length cs
length-answers x [] = refl
length-answers x (c ∷ cs) = ap suc (length-answers (look_after x c (call_in x c)) cs)

stored-end : (f : Replacing.Replacing → ℕ) (x : Look) (cs : Calls) (a₀ : List ℕ) (y : Look) (ds : Calls) (i : ℕ) (a : List ℕ) → Stored f x cs a₀ y ds i a → ds ≡ []
    → a ≡ map f (look_run x cs).0 ++ drop (length cs) a₀
unfolding wrote
stored-end f x cs a₀ y ds i a g p =
    let e : a ≡ map f (look_run x cs).0 ++ drop (0 + length (map f (look_run x cs).0)) a₀ = sym (g ∙ ap (λ (l : Calls). wrote i (map f (look_run y l).0) a) p ∙ wrote_none i a) in
    let n : length (map f (look_run x cs).0) ≡ length (look_run x cs).0 = length-map (look_run x cs).0 f in
    let z : 0 + length (map f (look_run x cs).0) ≡ length cs = omega (arith, length-answers x cs) in
    e ∙ ap (λ (k : ℕ). map f (look_run x cs).0 ++ drop k a₀) z

pub going_end : (x : Look) (cs : Calls) (n₀ p₀ : List ℕ) (y : Look) (ds : Calls) (i : ℕ) (n p : List ℕ) → Going x cs n₀ p₀ y ds i n p → ds ≡ [] → CallsRun x cs n₀ p₀ y n p
going_end x cs n₀ p₀ y ds i n p g e = record {
  numbers = stored-end Replaces.replacing_number x cs n₀ y ds i n g.numbers e;
  places = stored-end Replaces.replacing_place x cs p₀ y ds i p g.places e;
  left = sym (g.left ∙ ap (λ (l : Calls). (look_run y l).1) e);
}

-- ---- one call, by its mark
pub marked-numbered : (l : ProcessList) (m₀ : Room) (k mark : ℕ) (e : List ℕ) (r : Outcome) (l₁ : ProcessList) (m₁ : Room) → mark < number_limit → Replaced l m₀ (numbered_call k mark e) r l₁ m₁
    → Replaced l m₀ (marked_call k mark e) r l₁ m₁
marked-numbered l m₀ k mark e r l₁ m₁ h t =
    subst (λ (n : Numbering). Replaced l m₀ (record { node = k; numbering = n; element = e }) r l₁ m₁) (ap (λ (b : Bool). cond b (numbered mark) unnumbered) (sym (lt-ltb mark number_limit h))) t

pub marked-plain : (l : ProcessList) (m₀ : Room) (k mark : ℕ) (e : List ℕ) (r : Outcome) (l₁ : ProcessList) (m₁ : Room) → number_limit ≤ mark → Replaced l m₀ (plain_call k e) r l₁ m₁
    → Replaced l m₀ (marked_call k mark e) r l₁ m₁
marked-plain l m₀ k mark e r l₁ m₁ h t =
    subst (λ (n : Numbering). Replaced l m₀ (record { node = k; numbering = n; element = e }) r l₁ m₁) (ap (λ (b : Bool). cond b (numbered mark) unnumbered) (sym (le-ltb mark number_limit h))) t

-- ---- the calls that are left
module _ (a i : ℕ) (ks ms bs ns ps s : List ℕ) where
  abbrev calls : Calls
  calls = calls_from a (drop i ks) (drop i ms) (drop i bs) (drop i ns) (drop i ps) s

  abbrev later : Calls
  later = calls_from (get_or bs i 0) (drop (i + 1) ks) (drop (i + 1) ms) (drop (i + 1) bs) (drop (i + 1) ns) (drop (i + 1) ps) s

  next : i < length ks → i < length ms → i < length bs → i < length ns → i < length ps → calls ≡ marked_call (get_or ks i 0) (get_or ms i 0) (call_part s a (get_or bs i 0)) ∷ later
  unfolding calls_from
  next p o q t u = rw (drop-cons ks i 0 p, drop-cons ms i 0 o, drop-cons bs i 0 q, drop-cons ns i 0 t, drop-cons ps i 0 u, add-one i) refl

  pub no_node : length ks ≤ i → calls ≡ []
  unfolding calls_from
  no_node p = rw (drop_of_length-le ks {i = i} p) refl

  pub no-mark : i < length ks → length ms ≤ i → calls ≡ []
  unfolding calls_from
  no-mark p o = rw (drop-cons ks i 0 p, drop_of_length-le ms {i = i} o) refl

  pub no_end : i < length ks → i < length ms → length bs ≤ i → calls ≡ []
  unfolding calls_from
  no_end p o q = rw (drop-cons ks i 0 p, drop-cons ms i 0 o, drop_of_length-le bs {i = i} q) refl

  pub no_number : i < length ks → i < length ms → i < length bs → length ns ≤ i → calls ≡ []
  unfolding calls_from
  no_number p o q t = rw (drop-cons ks i 0 p, drop-cons ms i 0 o, drop-cons bs i 0 q, drop_of_length-le ns {i = i} t) refl

  pub no_place : i < length ks → i < length ms → i < length bs → i < length ns → length ps ≤ i → calls ≡ []
  unfolding calls_from
  no_place p o q t u = rw (drop-cons ks i 0 p, drop-cons ms i 0 o, drop-cons bs i 0 q, drop-cons ns i 0 t, drop_of_length-le ps {i = i} u) refl

  -- one of the slices is at its end
  pub no_more : (n : ℕ) → n ≡ min (min (min (min (length ks) (length ms)) (length bs)) (length ns)) (length ps) → n ≤ i → calls ≡ []
  no_more n q h = go (order (length ks) i) (order (length ms) i) (order (length bs) i) (order (length ns) i) (order (length ps) i)
    where
      go : Order (length ks) i → Order (length ms) i → Order (length bs) i → Order (length ns) i → Order (length ps) i → calls ≡ []
      go (low k) m b d e = no_node k
      go (high k) (low m) b d e = no-mark k m
      go (high k) (high m) (low b) d e = no_end k m b
      go (high k) (high m) (high b) (low d) e = no_number k m b d
      go (high k) (high m) (high b) (high d) (low e) = no_place k m b d e
      go (high k) (high m) (high b) (high d) (high e) = absurd (omega (arith, q))

  -- a turn of the loop, whose call has the bytes e
  pub turn : (x : Look) (cs : Calls) (n₀ p₀ : List ℕ) (l : ProcessList) (m : Room) (n p : List ℕ) → Going x cs n₀ p₀ (look_of l m) calls i n p
      → i < length ks → i < length ms → i < length bs → i < length ns → i < length ps → i < length n → i < length p → (e : List ℕ) → e ≡ call_part s a (get_or bs i 0)
      → (r : Outcome) (l₁ : ProcessList) (m₁ : Room) → Replaced l m (marked_call (get_or ks i 0) (get_or ms i 0) e) r l₁ m₁
      → (t : ℕ × ℕ) → t ≡ (number_of r, place_of r) → Going x cs n₀ p₀ (look_of l₁ m₁) later (i + 1) (set n i t.0) (set p i t.1)
  turn x cs n₀ p₀ l m n p g hk hm hb hn hp jn jp e z r l₁ m₁ v t q =
      rw q (going-turn x cs n₀ p₀ (look_of l m) calls i n p g _ _ (next hk hm hb hn hp) jn jp r l₁ m₁
      (subst (λ (b : List ℕ). Replaced l m (marked_call (get_or ks i 0) (get_or ms i 0) b) r l₁ m₁) z v))
