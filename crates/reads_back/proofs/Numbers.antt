-- Numbers in front of what follows them, parted by white space. Assumes nothing.
use mathlib.Core.Path.{◌≡◌, refl, sym, ap, ◌∙◌}
use mathlib.Core.Bool.{Bool, true, false, cond, ◌&&◌, ◌||◌, not}
use mathlib.Core.List.{List, [], ◌∷◌, ◌++◌, append-nil, append_assoc}
use Prim.Native.Nat.{ℕ, zero, suc, ◌+◌, ◌*◌, ◌≤◌, ◌<◌}
use native.Mathlib.Omega.{arith}
use native.Mathlib.Nat.{zero-mul, suc-mul}
use lib.Dec.{eqb, ltb}
use lib.ListN.{length, take, drop, length-append, length-take, length-drop, take-append-drop}
use borrow.Author.Tests.{le-ltb, lt-leb, ne_eqb}
use Rattle.decimal.specs.declared.Decimal.{Decimal}
use Rattle.decimal.specs.Decimal.{Token}
use Rattle.std.specs.Prelude.{Ok}
use Rattle.decimal_read.specs.Number.{token_of}
use Rattle.decimal_write.specs.Written.{written_of}
use Rattle.decimal_write.specs.Laws.{Every, none, more, written-every, written-some}
use Rattle.decimal_back.specs.Back.{reads-back}
use Rattle.valid.specs.Valid.{every}
use Rattle.valid.proofs.Readings.{every-cons}
use Rattle.grammar.specs.Parse.{Out, done, Parser, Turn, again, last, then_out, ret_p, judge_out, loop_p}
use Rattle.grammar.specs.Laws.{nope, loop-again, loop-last}
use Rattle.grammar.specs.Grammar.{look}
use Rattle.xml.specs.Bytes.{is_space}
use Rattle.clf.specs.Numbers.{ends_token, token, said_by, fault_of, number_byte, numbers}
use Rattle.claims.proofs.Numbers.{Each, Kept}
use Rattle.written_form.proofs.Tail.{spaced_text, row_text, rows_text}
use Rattle.reads_back.proofs.Texts.{skip, is_name, plain_byte, text-reads}
use Rattle.reads_back.proofs.Tags.{judge-reads, no-space, only_end-reads}

-- ---- the bytes of a written number end no token

abbrev plain : ℕ → Bool
plain = plain_byte ends_token

plain_by : (b : ℕ) → is_space b ≡ false → eqb b 60 ≡ false → eqb b 38 ≡ false → plain b ≡ true
plain_by b p q r = rw (p, q, r)

plain-digit : (k : ℕ) → k < 10 → plain (48 + k) ≡ true
plain-digit k h = plain_by (48 + k) (no-space (48 + k) (omega arith)) (ne_eqb (48 + k) 60 (λ e. omega arith)) (ne_eqb (48 + k) 38 (λ e. omega arith))

pub every_of : {p : ℕ → Bool} (l : List ℕ) → Every (λ b. p b ≡ true) l → every p l ≡ true
unfolding every
every_of l none = refl
every_of l (more {b = b} {l = m} h e) = rw (h, every_of m e)

written-plain : (d : Decimal) → every plain (written_of d) ≡ true
written-plain d =
    every_of (written_of d) (written-every (λ b. plain b ≡ true) plain-digit
    (plain_by 45 (no-space 45 (omega arith)) refl refl) (plain_by 101 (no-space 101 (omega arith)) refl refl) d)

plain-first : (b : ℕ) → plain b ≡ true → (is_space b ≡ false) × (eqb b 60 ≡ false)
plain-first b h = go (is_space b) (eqb b 60) h
  where
    go : (x y : Bool) → (not (x || y) && (not y && not (eqb b 38))) ≡ true → (x ≡ false) × (y ≡ false)
    go true y e = nope cc
    go false true e = nope cc
    go false false e = (refl, refl)

none_left : {A : Type 0} (l : List A) → length l ≡ 0 → l ≡ []
none_left [] h = refl
none_left (x ∷ l) h = absurd (omega arith)

pub each_take : {A : Type 0} (P : A → Type 0) (n : ℕ) (l : List A) → Each P l → Each P (take n l)
each_take P zero l h = tt
each_take P (suc n) [] h = tt
each_take P (suc n) (x ∷ l) h = (h.0, each_take P n l h.1)

pub each-drop : {A : Type 0} (P : A → Type 0) (n : ℕ) (l : List A) → Each P l → Each P (drop n l)
each-drop P zero l h = h
each-drop P (suc n) [] h = tt
each-drop P (suc n) (x ∷ l) h = each-drop P n l h.1

-- what follows a number: a byte that ends it
pub record Ends (s : List ℕ) : Type 0 where
  pub first : ℕ
  pub rest : List ℕ
  pub is : s ≡ first ∷ rest
  pub ends : ends_token first ≡ true

-- ---- the numbers of an element of this name, of which n there are, each kept to the rule

module _ (w : List ℕ) (n : ℕ) (rule : Decimal → ℕ) where
  abbrev turn : List Decimal → Parser (Turn (List Decimal) (List Decimal))
  turn l = (look (number_byte w n rule l)).run

  -- after the numbers l
  unfoldable pub numbers_from : List Decimal → Parser (List Decimal)
  numbers_from l = loop_p turn l

  pub numbers-from : (s : List ℕ) → (numbers w n rule).run s ≡ numbers_from [] s
  unfolding numbers numbers_from
  numbers-from s = refl

  -- white space
  pub past-space : (l : List Decimal) (t : List ℕ) → numbers_from l (32 ∷ t) ≡ numbers_from l t
  unfolding numbers_from is_space
  past-space l t = loop-again turn l (32 ∷ t) l t refl (omega arith)

  pub past-line : (l : List Decimal) (t : List ℕ) → numbers_from l (10 ∷ t) ≡ numbers_from l t
  unfolding numbers_from is_space
  past-line l t = loop-again turn l (10 ∷ t) l t refl (omega arith)

  -- the end tag
  pub numbers-end : (l : List Decimal) (t : List ℕ) → is_name w ≡ true → n ≤ length l → numbers_from l (60 ∷ 47 ∷ w ++ 62 ∷ t) ≡ done l t
  unfolding numbers_from is_space
  numbers-end l t h k =
      let q : ◌≡◌ {A = ℕ} (cond (ltb (length l) n) 22 0) 0 = rw (le-ltb (length l) n k) in
      loop-last turn l (60 ∷ 47 ∷ w ++ 62 ∷ t) l t
      (ap (λ (o : Out (Unit {0})). then_out o (λ u. ret_p (last l))) (only_end-reads w t (cond (ltb (length l) n) 22 0) h q))

  -- a token
  fault-none : (l : List Decimal) (d : Decimal) (k : Token) → k ≡ Ok d → length l < n → rule d ≡ 0 → fault_of n rule (length l) k ≡ 0
  fault-none l d k e h q = ap (fault_of n rule (length l)) e ∙ ap (λ (v : Bool). cond v 22 (rule d)) (lt-leb n (length l) h) ∙ q

  token-reads : (l : List Decimal) (d : Decimal) (x : ℕ) (v : List ℕ) (b : ℕ) (t : List ℕ) → every plain (x ∷ v) ≡ true → token_of (x ∷ v) ≡ Ok d → length l < n → rule d ≡ 0
      → ends_token b ≡ true → numbers_from l (x ∷ v ++ b ∷ t) ≡ numbers_from (l ++ d ∷ []) (b ∷ t)
  unfolding numbers_from token
  token-reads l d x v b t p e h q k =
      let f = plain-first x (every-cons plain x v p).0 in
      let a : judge_out (λ (z : (Unit {0}) × List ℕ). fault_of n rule (length l) (token_of z.1)) (token.run (x ∷ v ++ b ∷ t)) (x ∷ v ++ b ∷ t) ≡ done (tt, x ∷ v) (b ∷ t) =
      judge-reads (λ (z : (Unit {0}) × List ℕ). fault_of n rule (length l) (token_of z.1)) (token.run (x ∷ v ++ b ∷ t)) (x ∷ v ++ b ∷ t) (tt, x ∷ v) (b ∷ t)
      (text-reads ends_token (x ∷ v) b t p k) (fault-none l d (token_of (x ∷ v)) e h q) in
      loop-again turn l (x ∷ v ++ b ∷ t) (l ++ d ∷ []) (b ∷ t)
      (skip (is_space x) _ _ (x ∷ v ++ b ∷ t) f.0
      ∙ skip (eqb x 60) _ _ (x ∷ v ++ b ∷ t) f.1
      ∙ ap (λ (o : Out ((Unit {0}) × List ℕ)). then_out o (λ z. ret_p (again (l ++ said_by (token_of z.1) ∷ [])))) a
      ∙ ap (λ (z : Token). done (again (l ++ said_by z ∷ [])) (b ∷ t)) e)
      (omega (arith, length-append v (b ∷ t)))

  -- a written number
  pub number-reads : (l : List Decimal) (d : Decimal) (s : List ℕ) → Kept rule d → length l < n → Ends s → numbers_from l (written_of d ++ s) ≡ numbers_from (l ++ d ∷ []) s
  number-reads l d s k h e = go (written_of d) (written-plain d) (reads-back d k.carried.ranged k.carried.settled) (written-some d k.carried.ranged)
    where
      go : (v : List ℕ) → every plain v ≡ true → token_of v ≡ Ok d → 1 ≤ length v → numbers_from l (v ++ s) ≡ numbers_from (l ++ d ∷ []) s
      go [] p q z = absurd (omega arith)
      go (x ∷ v) p q z =
          ap (λ (u : List ℕ). numbers_from l (x ∷ v ++ u)) e.is
          ∙ token-reads l d x v e.first e.rest p q h k.within e.ends
          ∙ ap (λ (u : List ℕ). numbers_from (l ++ d ∷ []) u) (sym e.is)

  -- numbers with a space before each
  spaced-ends : (ds : List Decimal) (s : List ℕ) → Ends s → Ends (spaced_text ds s)
  unfolding spaced_text is_space
  spaced-ends [] s e = e
  spaced-ends (d ∷ ds) s e = record { first = 32; rest = written_of d ++ spaced_text ds s; is = refl; ends = refl }

  spaced-read : (l ds : List Decimal) (s : List ℕ) → Each (Kept rule) ds → length l + length ds ≤ n → Ends s → numbers_from l (spaced_text ds s) ≡ numbers_from (l ++ ds) s
  unfolding spaced_text
  spaced-read l [] s k h e = ap (λ (m : List Decimal). numbers_from m s) (sym (append-nil l))
  spaced-read l (d ∷ ds) s k h e =
      past-space l (written_of d ++ spaced_text ds s)
      ∙ number-reads l d (spaced_text ds s) k.0 (omega arith) (spaced-ends ds s e)
      ∙ spaced-read (l ++ d ∷ []) ds s k.1 (omega (arith, length-append l (d ∷ []))) e
      ∙ ap (λ (m : List Decimal). numbers_from m s) (append_assoc l (d ∷ []) ds)

  -- the numbers of one line
  pub row_reads : (l ds : List Decimal) (s : List ℕ) → Each (Kept rule) ds → length l + length ds ≤ n → Ends s → numbers_from l (row_text ds s) ≡ numbers_from (l ++ ds) s
  unfolding row_text
  row_reads l [] s k h e = ap (λ (m : List Decimal). numbers_from m s) (sym (append-nil l))
  row_reads l (d ∷ ds) s k h e =
      number-reads l d (spaced_text ds s) k.0 (omega arith) (spaced-ends ds s e)
      ∙ spaced-read (l ++ d ∷ []) ds s k.1 (omega (arith, length-append l (d ∷ []))) e
      ∙ ap (λ (m : List Decimal). numbers_from m s) (append_assoc l (d ∷ []) ds)

  -- rows, an LF after each
  line-ends : (s : List ℕ) → Ends (10 ∷ s)
  unfolding is_space
  line-ends s = record { first = 10; rest = s; is = refl; ends = refl }

  pub rows-read : (rows columns : ℕ) (l ds : List Decimal) (s : List ℕ) → Each (Kept rule) ds → length ds ≡ rows * columns → length l + length ds ≤ n
      → numbers_from l (rows_text rows columns ds s) ≡ numbers_from (l ++ ds) s
  unfolding rows_text
  rows-read zero columns l ds s k c h = ap (λ (m : List Decimal). numbers_from m s) (sym (append-nil l) ∙ ap (λ (m : List Decimal). l ++ m) (sym (none_left ds (c ∙ zero-mul columns))))
  rows-read (suc rows) columns l ds s k c h =
      let z : length ds ≡ rows * columns + columns = c ∙ suc-mul rows columns in
      let a : length (take columns ds) ≡ columns = length-take columns ds ∙ omega arith in
      let b : length (drop columns ds) ≡ rows * columns = length-drop columns ds ∙ omega arith in
      row_reads l (take columns ds) (10 ∷ rows_text rows columns (drop columns ds) s) (each_take (Kept rule) columns ds k) (omega arith) (line-ends (rows_text rows columns (drop columns ds) s))
      ∙ past-line (l ++ take columns ds) (rows_text rows columns (drop columns ds) s)
      ∙ rows-read rows columns (l ++ take columns ds) (drop columns ds) s (each-drop (Kept rule) columns ds k) b (omega (arith, length-append l (take columns ds)))
      ∙ ap (λ (m : List Decimal). numbers_from m s) (append_assoc l (take columns ds) (drop columns ds) ∙ ap (λ (m : List Decimal). l ++ m) (take-append-drop columns ds))
