-- Laws of the words of a line and of the pieces of an answer. Assumes nothing.
use mathlib.Core.Path.{◌≡◌, refl, sym, ap, ◌∙◌, subst}
use mathlib.Core.Bool.{Bool, true, false, cond, not, ◌&&◌, false≢true}
use mathlib.Core.List.{List, [], ◌∷◌, ◌++◌, append_assoc, append-nil}
use Prim.Native.Nat.{ℕ, zero, suc, ◌+◌, ◌-◌, ◌*◌, ◌/◌, ◌%◌, ◌≤◌, ◌<◌}
use native.Mathlib.Omega.{arith}
use native.Mathlib.Numerals.{add-one}
use native.Mathlib.Nat.{add_assoc}
use borrow.Author.Tests.{eq-eqb, ne_eqb, lt-ltb, le-ltb, le-leb, lt-leb}
use lib.Dec.{T, eqb}
use lib.ListN.{length, take, drop, get_or, set, length-set, length-drop, take-append-drop, drop_of_length-le}
use lib.Seq.{get_or-drop, drop-drop, drop-set-lt, take-suc-set, length-take-le}
use lib.Ieee.{Float, nan, inf, fin, binary64, of_bits, to_bits, nan_bits, is_nan, eq, ne, level, up, down, div, of_fields}
use Rattle.std.proofs.lemmas.Grind.{common_steps}
use Rattle.scanning.specs.Steps.{here, part_length}
use Rattle.std.specs.Prelude.{Option, Some, None}
use Rattle.text_out.specs.Output.{Goes}
use Rattle.fields.specs.declared.Field.{Field}
use Rattle.fields.specs.Fields.{field_from, word_number}
use Rattle.tags.specs.Code.{part_in}
use Rattle.xml.specs.Bytes.{bytes}
use Rattle.std.specs.Option.{option_map_or}
use Rattle.shell_text.specs.Hex.{digit_of, glyph_of, pair_text, joined_of, bytes_of, Decodes, word_at, is_none, part_of, part_left, DecodesPart, is_last, last_of, last_left, DecodesLast}
use Rattle.shell_text.specs.Show.{hex_text, id_shown}
use Rattle.shell_text.specs.Lines.{last_number, line_end}
use Rattle.shell_text.specs.Words.{with_digit, bits_from, top_digits, bits_text}

-- ---- the words of X

pub bits-end : (w : List ℕ) (n i : ℕ) → length w ≤ i → bits_from n (drop i w) ≡ Some n
unfolding bits_from
bits-end w n i h = rw (drop_of_length-le w h)

module _ (w : List ℕ) (n i : ℕ) (h : i < length w) where
  pub bits-bad : digit_of (get_or w i 0) ≡ None → bits_from n (drop i w) ≡ None
  unfolding bits_from
  bits-bad e = rw (here w i h, e)

  pub bits-more : (d : ℕ) → digit_of (get_or w i 0) ≡ Some d → bits_from n (drop i w) ≡ bits_from (with_digit n d) (drop (i + 1) w)
  unfolding bits_from
  bits-more d e = rw (here w i h, e)

-- ---- digits
pub digit-below : (b d : ℕ) → digit_of b ≡ Some d → d < 16
unfolding digit_of
digit-below b d e = grind (arith, common_steps)

-- ---- which bit patterns and which floats are no NaN

and-false : (b : Bool) → T (not (b && false))
and-false true = tt
and-false false = tt

-- an exponent's field that is not all ones
pub by_field : (n : ℕ) → (n % 9223372036854775808 / 4503599627370496 ≡ 2047 → ⊥) → T (not (nan_bits binary64 n))
unfolding nan_bits
by_field n h =
    subst (λ (b : Bool). T (not (b && not (eqb (n % 4503599627370496) 0)))) (sym (ne_eqb (n % 9223372036854775808 / 4503599627370496) 2047 h)) tt

-- no digits below the leading one
pub by_digits : (n : ℕ) → n % 4503599627370496 ≡ 0 → T (not (nan_bits binary64 n))
unfolding nan_bits
by_digits n h =
    subst (λ (b : Bool). T (not (eqb (n % 9223372036854775808 / 4503599627370496) 2047 && not b))) (sym (eq-eqb (n % 4503599627370496) 0 h))
    (and-false (eqb (n % 9223372036854775808 / 4503599627370496) 2047))

-- a float that is equal to itself
pub by_itself : (x : Float) → ne x x ≡ false → T (not (is_nan x))
unfolding ne eq is_nan
by_itself nan h = subst T h tt
by_itself (inf s) h = tt
by_itself (fin s m e) h = tt

level-self : (s : Bool) (a : ℕ) → not (level s a s a) ≡ false
level-self true a = rw (eq-eqb a a refl)
level-self false a = rw (eq-eqb a a refl)

-- one that is not is the NaN
pub not_itself : (x : Float) → ne x x ≡ true → 9221120237041090560 ≡ to_bits binary64 x
unfolding ne eq to_bits
not_itself nan h = refl
not_itself (inf true) h = absurd (false≢true h)
not_itself (inf false) h = absurd (false≢true h)
not_itself (fin s m e) h = absurd (false≢true (sym (level-self s (m * up e * down e)) ∙ h))

-- an exponent's field of all ones with other digits
pub nan-of : (n : ℕ) → n % 9223372036854775808 / 4503599627370496 ≡ 2047 → (n % 4503599627370496 ≡ 0 → ⊥) → of_bits binary64 n ≡ nan
unfolding of_bits of_fields
nan-of n h k = rw (h, ne_eqb (n % 4503599627370496) 0 k)

pub zero_by_zero : div binary64 (of_bits binary64 0) (of_bits binary64 0) ≡ nan
unfolding div of_bits of_fields
zero_by_zero = refl

-- ---- a number's digits, the highest first
pub digits-first : (n at : ℕ) (s : List ℕ) → Goes (λ t. bits_text n ++ t) (λ t. top_digits 16 n ++ t) at s s at
unfolding bits_text
digits-first n at s = record { bytes = λ t. refl; next = λ t. refl; size = refl }

pub top-more : (i rest d : ℕ) → i < 16 → d ≡ glyph_of (rest / 1152921504606846976 % 16) → (t : List ℕ)
    → top_digits (16 - i) rest ++ t ≡ (d ∷ []) ++ (top_digits (16 - (i + 1)) (rest % 1152921504606846976 * 16) ++ t)
unfolding top_digits
top-more i rest d h e t = let q : 16 - i ≡ suc (16 - (i + 1)) = omega arith in rw (e, q)

pub top-none : (i rest : ℕ) → 16 ≤ i → (t : List ℕ) → top_digits (16 - i) rest ++ t ≡ t
unfolding top_digits
top-none i rest h t = let q : 16 - i ≡ 0 = omega arith in rw q

-- ---- a node's id: hex digits, two a byte, `-` for none
pub hex-more : (w : List ℕ) (i : ℕ) (pair : List ℕ) → i < length w → pair ≡ pair_text (get_or w i 0) → (t : List ℕ) → hex_text (drop i w) t ≡ pair ++ hex_text (drop (i + 1) w) t
unfolding hex_text
hex-more w i pair h e t = rw (here w i h, e)

pub hex-none : (w : List ℕ) (i : ℕ) → length w ≤ i → (t : List ℕ) → hex_text (drop i w) t ≡ t
unfolding hex_text
hex-none w i h t = rw (drop_of_length-le w h)

pub shown-none : (s : List ℕ) → length s ≡ 0 → (t : List ℕ) → id_shown s t ≡ bytes "-" ++ t
unfolding id_shown
shown-none [] h t = refl
shown-none (b ∷ s) h t = absurd (omega arith)

-- w are the id's bytes, as the code has them
pub shown-some : (s w : List ℕ) → 1 ≤ length s → w ≡ s → (t : List ℕ) → id_shown s t ≡ hex_text w t
unfolding id_shown
shown-some [] w h e t = absurd (omega arith)
shown-some (b ∷ s) w h e t = rw e

-- ---- the last field of a line: f is the field from `at` on, g the one behind it
module _ (s : List ℕ) (at : ℕ) (f g : Field) (ef : f ≡ field_from s at) (eg : g ≡ field_from s f.end) where
  pub start_is : f.start ≡ (field_from s at).start
  start_is = ap (λ (x : Field). x.start) ef

  pub end_is : f.end ≡ (field_from s at).end
  end_is = ap (λ (x : Field). x.end) ef

  more-start : g.start ≡ (field_from s (field_from s at).end).start
  more-start = ap (λ (x : Field). x.start) eg ∙ ap (λ (k : ℕ). (field_from s k).start) end_is

  more-end : g.end ≡ (field_from s (field_from s at).end).end
  more-end = ap (λ (x : Field). x.end) eg ∙ ap (λ (k : ℕ). (field_from s k).end) end_is

  pub not_last : g.start < g.end → is_last s at ≡ false
  not_last h = lt-leb _ _ (subst (λ (k : ℕ). (field_from s (field_from s at).end).start < k) more-end (subst (λ (k : ℕ). k < g.end) more-start h))

  pub is-last : g.end ≤ g.start → is_last s at ≡ true
  is-last h = le-leb _ _ (subst (λ (k : ℕ). k ≤ (field_from s (field_from s at).end).start) more-end (subst (λ (k : ℕ). g.end ≤ k) more-start h))

  pub no-last-number : g.start < g.end → None ≡ last_number s at
  unfolding last_number
  no-last-number h = rw (not_last h)

  pub last-number : (w : List ℕ) (r : Option ℕ) → g.end ≤ g.start → w ≡ part_in s f.start f.end → r ≡ word_number w → r ≡ last_number s at
  unfolding last_number
  last-number w r h ew er = er ∙ ap word_number (ew ∙ ap (λ (k : ℕ). part_in s k f.end) start_is ∙ ap (λ (k : ℕ). part_in s (field_from s at).start k) end_is) ∙ (rw (is-last h))

-- ---- a word decoded in place: w₀ at first, w after i bytes
pub record Passed (w₀ w : List ℕ) (i : ℕ) : Type 0 where
  pub rest : drop i w ≡ drop i w₀
  pub bytes : bytes_of w₀ ≡ take i w ++ bytes_of (drop (i + i) w₀)
  pub size : length w ≡ length w₀

pub none_passed : (w : List ℕ) → Passed w w 0
none_passed w = record { rest = refl; bytes = refl; size = refl }

two_here : (w : List ℕ) (k : ℕ) → k + 1 < length w → drop k w ≡ get_or w k 0 ∷ (get_or w (k + 1) 0 ∷ drop (k + 1 + 1) w)
two_here w k h = here w k (omega arith) ∙ ap (λ (l : List ℕ). get_or w k 0 ∷ l) (here w (k + 1) h)

module _ (w₀ w : List ℕ) (i b : ℕ) (p : Passed w₀ w i) where
  same_byte : (k : ℕ) → get_or w (i + k) 0 ≡ get_or w₀ (i + k) 0
  same_byte k = sym (get_or-drop i w k 0) ∙ ap (λ (l : List ℕ). get_or l k 0) p.rest ∙ get_or-drop i w₀ k 0

  module _ (x y : ℕ) (o : Option ℕ) (x-is : x ≡ i + i) (y-is : y ≡ i + i + 1) (e : o ≡ joined_of (get_or w x 0) (get_or w y 0)) (h : y < length w) where
    joined_is : o ≡ joined_of (get_or w₀ (i + i) 0) (get_or w₀ (i + i + 1) 0)
    joined_is =
        let ex : get_or w x 0 ≡ get_or w₀ (i + i) 0 = ap (λ (k : ℕ). get_or w k 0) x-is ∙ same_byte i in
        let ey : get_or w y 0 ≡ get_or w₀ (i + i + 1) 0 = ap (λ (k : ℕ). get_or w k 0) (y-is ∙ add_assoc i i 1) ∙ same_byte (i + 1) ∙ ap (λ (k : ℕ). get_or w₀ k 0) (sym (add_assoc i i 1)) in
        e ∙ ap (λ (k : ℕ). joined_of k (get_or w y 0)) ex ∙ ap (λ (k : ℕ). joined_of (get_or w₀ (i + i) 0) k) ey

    inside : i + i + 1 < length w₀
    inside = omega (arith, p.size)

    pub stops : o ≡ None → bytes_of (drop (i + i) w₀) ≡ []
    unfolding bytes_of
    stops k = rw (two_here w₀ (i + i) inside, ← joined_is, k)

    pub decodes-one : o ≡ Some b → bytes_of (drop (i + i) w₀) ≡ b ∷ bytes_of (drop (i + i + 1 + 1) w₀)
    unfolding bytes_of
    decodes-one k = rw (two_here w₀ (i + i) inside, ← joined_is, k)

    pub passes-one : o ≡ Some b → Passed w₀ (set w i b) (i + 1)
    passes-one k = record {
      rest = drop-set-lt (i + 1) w i b (omega arith) ∙ further;
      bytes =
          p.bytes ∙ ap (λ (l : List ℕ). take i w ++ l) (decodes-one k ∙ ap (λ (n : ℕ). b ∷ bytes_of (drop n w₀)) twice) ∙ sym (append_assoc (take i w) (b ∷ []) _)
          ∙ ap (λ (l : List ℕ). l ++ bytes_of (drop (i + 1 + (i + 1)) w₀)) (sym taken);
      size = length-set w i b ∙ p.size;
    }
      where
        twice : i + i + 1 + 1 ≡ i + 1 + (i + 1)
        twice = omega arith

        further : drop (i + 1) w ≡ drop (i + 1) w₀
        further = sym (drop-drop 1 i w) ∙ ap (drop 1) p.rest ∙ drop-drop 1 i w₀

        taken : take (i + 1) (set w i b) ≡ take i w ++ (b ∷ [])
        taken = rw add-one (take-suc-set w i b (omega (arith, p.size)))

  pub ends : i ≤ length w → bytes_of (drop (i + i) w₀) ≡ [] → Decodes w₀ w i
  ends h e =
      let b : bytes_of w₀ ≡ take i w = p.bytes ∙ ap (λ (l : List ℕ). take i w ++ l) e ∙ append-nil (take i w) in
      let n : length (bytes_of w₀) ≡ i = ap length b ∙ length-take-le i w h in
      record {
        bytes = sym (take-append-drop i w) ∙ ap (λ (l : List ℕ). take i w ++ l) p.rest ∙ ap (λ (l : List ℕ). l ++ drop i w₀) (sym b) ∙ ap (λ (k : ℕ). bytes_of w₀ ++ drop k w₀) (sym n);
        count = sym n;
      }

-- fewer than two bytes are none
few-by : (l : List ℕ) → length l ≤ 1 → bytes_of l ≡ []
unfolding bytes_of
few-by [] m = refl
few-by (x ∷ []) m = refl
few-by (x ∷ (y ∷ l)) m = absurd (omega arith)

pub few_bytes : (w : List ℕ) (k : ℕ) → length w ≤ k + 1 → bytes_of (drop k w) ≡ []
few_bytes w k h = few-by (drop k w) (omega (arith, length-drop k w))

-- ---- a part of a line

-- two bytes of a word at least for each that it says
pub bytes-half : (w : List ℕ) → length (bytes_of w) + length (bytes_of w) ≤ length w
unfolding bytes_of
bytes-half [] = omega arith
bytes-half (h ∷ []) = omega arith
bytes-half (h ∷ (l ∷ w)) = go (joined_of h l) (bytes-half w)
  where
    more : Option ℕ → List ℕ
    more o = option_map_or (λ b. b ∷ bytes_of w) o []

    go : (o : Option ℕ) → length (bytes_of w) + length (bytes_of w) ≤ length w → length (more o) + length (more o) ≤ length (h ∷ (l ∷ w))
    go None k = omega arith
    go (Some b) k = omega arith

-- a list cut at two places and joined again
seam : (n m : ℕ) (l : List ℕ) → drop n (take (n + m) l) ++ drop (n + m) l ≡ drop n l
seam zero m l = let e : zero + m ≡ m = omega arith in rw e (take-append-drop m l)
seam (suc n) m [] = let e : suc n + m ≡ suc (n + m) = omega arith in rw e
seam (suc n) m (x ∷ l) = let e : suc n + m ≡ suc (n + m) = omega arith in rw e (seam n m l)

module _ (s : List ℕ) (a e : ℕ) where
  pub part-beyond : length s < e → DecodesPart s a e s None
  unfolding part_of part_left
  part-beyond h = record { says = simp (lt-ltb (length s) e h); line = simp (lt-ltb (length s) e h) }

  module _ (h : e ≤ length s) where
    pub part-empty : e ≤ a → DecodesPart s a e s None
    unfolding part_of part_left
    part-empty k = record { says = simp (le-ltb (length s) e h, le-leb e a k); line = simp (le-ltb (length s) e h, le-leb e a k) }

    module _ (k : a < e) where
      pub part_none : is_none s a e ≡ true → DecodesPart s a e s (Some (record { start = a; end = a }))
      unfolding part_of part_left
      part_none n = record { says = simp (le-ltb (length s) e h, lt-leb e a k, n); line = simp (le-ltb (length s) e h, lt-leb e a k, n) }

      -- the part's word w was decoded to w'; the line is then l
      module _ (n : is_none s a e ≡ false) (w' l : List ℕ) (m : ℕ) (p : Decodes (word_at s a e) w' m) (q : l ≡ take a s ++ (w' ++ drop (e - a) (drop a s))) where
        abbrev size-w : ℕ
        size-w = length (bytes_of (word_at s a e))

        few : size-w + size-w ≤ e - a
        few = omega (arith, bytes-half (word_at s a e), part_length s a e (omega arith) h)

        back : drop size-w (word_at s a e) ++ drop (e - a) (drop a s) ≡ drop (a + size-w) s
        back =
            let z : size-w + (e - a - size-w) ≡ e - a = omega (arith, few) in
            ap (λ (k : ℕ). drop size-w (take k (drop a s)) ++ drop k (drop a s)) (sym z) ∙ seam size-w (e - a - size-w) (drop a s) ∙ drop-drop size-w a s

        line-is : l ≡ part_left s a e
        unfolding part_left
        line-is =
            q ∙ ap (λ (x : List ℕ). take a s ++ (x ++ drop (e - a) (drop a s))) p.bytes
            ∙ ap (λ (x : List ℕ). take a s ++ x) (append_assoc (bytes_of (word_at s a e)) (drop size-w (word_at s a e)) (drop (e - a) (drop a s)) ∙ ap (λ (x : List ℕ). bytes_of (word_at s a e) ++ x) back)
            ∙ simp (le-ltb (length s) e h, lt-leb e a k, n)

        abbrev up-to : ℕ → Option Field
        up-to x = Some (record { start = a; end = a + x })

        pub part_bytes : m * 2 ≡ e - a → DecodesPart s a e l (Some (record { start = a; end = a + m }))
        unfolding part_of
        part_bytes t =
            let u : size-w * 2 ≡ e - a = ap (λ (x : ℕ). x * 2) (sym p.count) ∙ t in
            record { says = simp (le-ltb (length s) e h, lt-leb e a k, n, eq-eqb (size-w * 2) (e - a) u) (ap up-to p.count); line = line-is }

        pub part-malformed : (m * 2 ≡ e - a → ⊥) → DecodesPart s a e l None
        unfolding part_of
        part-malformed t =
            let u : (size-w * 2 ≡ e - a → ⊥) = λ z. t (ap (λ (x : ℕ). x * 2) p.count ∙ z) in
            record { says = simp (le-ltb (length s) e h, lt-leb e a k, n, ne_eqb (size-w * 2) (e - a) u); line = line-is }

-- ---- the last field, in hex
module _ (s : List ℕ) (at : ℕ) (f g : Field) (ef : f ≡ field_from s at) (eg : g ≡ field_from s f.end) where
  pub no-last-field : g.start < g.end → DecodesLast s at s None
  unfolding last_of last_left
  no-last-field h = record { says = simp (not_last s at f g ef eg h); line = simp (not_last s at f g ef eg h) }

  pub last-field : (s' : List ℕ) (r : Option Field) → g.end ≤ g.start → DecodesPart s f.start f.end s' r → DecodesLast s at s' r
  unfolding last_of last_left
  last-field s' r h p =
      let q : DecodesPart s (field_from s at).start (field_from s at).end s' r =
      subst (λ (k : ℕ). DecodesPart s (field_from s at).start k s' r) (end_is s at f g ef eg) (subst (λ (k : ℕ). DecodesPart s k f.end s' r) (start_is s at f g ef eg) p) in
      record { says = q.says ∙ (rw (is-last s at f g ef eg h)); line = q.line ∙ (rw (is-last s at f g ef eg h)) }

-- ---- a line's end
pub line_end-nil : (at : ℕ) → line_end at [] ≡ at
unfolding line_end
line_end-nil at = refl

pub line_end-cons : (at b : ℕ) (l : List ℕ) → line_end at (b ∷ l) ≡ cond (eqb b 10) at (line_end (at + 1) l)
unfolding line_end
line_end-cons at b l = refl
