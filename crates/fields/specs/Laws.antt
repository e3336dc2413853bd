-- The clauses of the definitions as laws, for proofs that scan a line byte by byte. Assumes nothing.
use Rattle.std.specs.Prelude.{◌≡◌, refl, cond, List, [], ◌∷◌, ℕ, ◌+◌, ◌≤◌, ◌<◌, length, drop, get_or, eqb, ltb}
use Rattle.std.proofs.Common.{ap, sym, ◌∙◌, eq-eqb, ne_eqb, le-ltb}
use Rattle.scanning.specs.Steps.{here}
use Rattle.std.specs.Prelude.{Some, None}
use Rattle.fields.specs.Fields.{behind_spaces, before_space, number_from, word_number, with_digit}

pub behind_spaces-nil : (at : ℕ) → behind_spaces at [] ≡ at
unfolding behind_spaces
behind_spaces-nil at = refl

pub behind_spaces-cons : (at b : ℕ) (l : List ℕ) → behind_spaces at (b ∷ l) ≡ cond (eqb b 32) (behind_spaces (at + 1) l) at
unfolding behind_spaces
behind_spaces-cons at b l = refl

pub before_space-nil : (at : ℕ) → before_space at [] ≡ at
unfolding before_space
before_space-nil at = refl

pub before_space-cons : (at b : ℕ) (l : List ℕ) → before_space at (b ∷ l) ≡ cond (eqb b 32) at (before_space (at + 1) l)
unfolding before_space
before_space-cons at b l = refl

pub number_from-nil : (n : ℕ) → number_from n [] ≡ Some n
unfolding number_from
number_from-nil n = refl

pub number_from-cons : (n b : ℕ) (l : List ℕ) → number_from n (b ∷ l) ≡ cond (ltb b 48) None (cond (ltb 57 b) None (number_from (with_digit n b) l))
unfolding number_from
number_from-cons n b l = refl

pub ruleset behind_spaces-laws = (behind_spaces-nil, behind_spaces-cons)

pub ruleset before_space-laws = (before_space-nil, before_space-cons)

pub ruleset number_from-laws = (number_from-nil, number_from-cons)

pub no_word : (s : List ℕ) → length s ≡ 0 → None ≡ word_number s
unfolding word_number
no_word s h = rw (eq-eqb (length s) 0 h)

pub some_word : (s : List ℕ) → (length s ≡ 0 → ⊥) → word_number s ≡ number_from 0 s
unfolding word_number
some_word s h = rw (ne_eqb (length s) 0 h)

-- one digit more
pub digit-more : (s : List ℕ) (n r i : ℕ) → i < length s → 48 ≤ get_or s i 0 → get_or s i 0 ≤ 57 → r ≡ with_digit n (get_or s i 0) → number_from n (drop i s) ≡ number_from r (drop (i + 1) s)
digit-more s n r i h lo hi e =
    ap (number_from n) (here s i h) ∙ rw (number_from-cons, le-ltb (get_or s i 0) 48 lo, le-ltb 57 (get_or s i 0) hi) (ap (λ (k : ℕ). number_from k (drop (i + 1) s)) (sym e))
