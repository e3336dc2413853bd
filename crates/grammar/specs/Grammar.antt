-- A grammar: a parser with the proof of its law. A definition made of these forms needs no proof of its own.
use Rattle.std.specs.Prelude.{Bool, List, [], ◌∷◌, ◌++◌, ℕ, refl}
use Rattle.grammar.specs.Parse.{Parser, Turn, again, last, bind_p, ret_p, bad_p, look_p, strict_p, look_two_p, judge_p, settle_p, blame_p, kept_p, eat_p, span_p, loop_p, loop_state}
use Rattle.grammar.specs.Laws.{StrongPrefix, bind-answer, ret-answer, bad-answer, eat-answer, span-law, look-answer, strict-answer, look_two-law, judge-answer}
use Rattle.grammar.specs.Laws.{settle-answer, blame-answer, kept-answer, loop-answer}

infixl 10 ◌>>◌ ◌>>=◌
pub record G (A : Type 0) : Type 0 where
  pub run : Parser A
  pub law : (s : List ℕ) → StrongPrefix run s

module _ {A : Type 0} where
  -- nothing is read
  abbrev pub ret : A → G A
  ret a = record { run = ret_p a; law = ret-answer a }

  -- a fault, here
  abbrev pub bad : ℕ → G A
  bad k = record { run = bad_p k; law = bad-answer k }

  -- by the next byte, which is not read yet
  abbrev pub look : (ℕ → G A) → G A
  look f = record { run = look_p (λ b. (f b).run); law = λ s. look-answer (λ b. (f b).run) s (λ b r. (f b).law (b ∷ r)) }

  -- by the next two bytes, of which one at least is read
  abbrev pub look_two : (ℕ → ℕ → G A) → G A
  look_two f = record { run = look_two_p (λ b c. (f b c).run); law = λ s. look_two-law (λ b c. (f b c).run) (λ b. refl) s (λ b c r. (f b c).law (b ∷ c ∷ r)) }

  -- a byte at least is read
  abbrev pub strict : G A → G A
  strict p = record { run = strict_p p.run; law = λ s. strict-answer p.run s (p.law s) }

  -- the value is judged when it is read: 0 is well, another number is a fault at its first byte
  abbrev pub judge : (A → ℕ) → G A → G A
  judge j p = record { run = judge_p j p.run; law = λ s. judge-answer j p.run s (p.law s) }

  -- a fault that is known at the first byte, and is judged once the rest has ended or is at fault: at one place the lowest number. 0 is no fault
  abbrev pub settle : ℕ → G A → G A
  settle v p = record { run = settle_p v p.run; law = λ s. settle-answer v p.run s (p.law s) }

  -- a fault in it has its first byte for a place
  abbrev pub blame : G A → G A
  blame p = record { run = blame_p p.run; law = λ s. blame-answer p.run s (p.law s) }

  -- the value, and the bytes that it was read from
  abbrev pub kept : G A → G (A × List ℕ)
  kept p = record { run = kept_p p.run; law = λ s. kept-answer p.run s (p.law s) }

-- a byte
abbrev pub eat : G ℕ
eat = record { run = eat_p; law = eat-answer }

-- the bytes that pass the test, up to one that does not, which is not read
abbrev pub span : (ℕ → Bool) → G (List ℕ)
span test = record { run = span_p test; law = span-law test refl }

-- one after the other
abbrev pub seq : {A B : Type 0} → G A → (A → G B) → G B
seq p f = record { run = bind_p p.run (λ a. (f a).run); law = λ s. bind-answer p.run (λ a. (f a).run) s (p.law s) (λ a r. (f a).law r) }

-- the same, for `do`
abbrev pub ◌>>=◌ : {A B : Type 0} → G A → (A → G B) → G B
◌>>=◌ p f = seq p f

abbrev pub ◌>>◌ : {A B : Type 0} → G A → G B → G B
◌>>◌ p q = seq p (λ a. q)

-- turn by turn, from state to state, to the turn that gives the value; a turn after which the loop goes on reads a byte at least
abbrev pub loop : {S B : Type 0} → (S → G (Turn S B)) → S → G B
loop f st = record { run = loop_p (λ v. (f v).run) st; law = λ s. loop-answer (λ v. (f v).run) (λ v u. (f v).law u) st s }

-- ---- items, each kept with its bytes

module _ {S A : Type 0} where
  abbrev pub added : List (A × List ℕ) → A × List ℕ → Turn S (Unit {0}) → Turn (S × List (A × List ℕ)) (List (A × List ℕ))
  added l x (again st) = again (st, l ++ x ∷ [])
  added l x (last u) = last (l ++ x ∷ [])

  -- one item more, in a state, after the items of a list
  abbrev pub one_item : (S → G A) → (S → A → Turn S (Unit {0})) → S × List (A × List ℕ) → G (Turn (S × List (A × List ℕ)) (List (A × List ℕ)))
  one_item item next v = seq (strict (kept (item v.0))) (λ x. ret (added v.1 x (next v.0 x.0)))

  -- items, to one after which none follows: each with the bytes that it was read from. The next one is read in the state that `next` says
  abbrev pub items : (S → G A) → (S → A → Turn S (Unit {0})) → S → G (List (A × List ℕ))
  items item next st = loop (one_item item next) (st, [])

  -- the items that stand whole before the last turn, each with its bytes, and the state behind them
  abbrev pub whole_items : (S → G A) → (S → A → Turn S (Unit {0})) → S → List ℕ → S × List (A × List ℕ)
  whole_items item next st s = loop_state (λ v. (one_item item next v).run) (st, []) s
