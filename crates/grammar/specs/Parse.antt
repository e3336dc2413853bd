-- Parsers over bytes, and what each form of a grammar does. A place in a file is the bytes that stand from there to the file's end: nothing here counts.
use Rattle.std.specs.Prelude.{List, [], ◌∷◌, Bool, cond, ℕ, zero, suc, ◌-◌, min, length, take, ltb, eqb}

-- what a parser finds: a value, and the bytes after it; a fault's number, and the bytes from its place on; or the bytes ended too early
pub data Out (A : Type 0) : Type 0 where
  done : A → List ℕ → Out A
  fault : ℕ → List ℕ → Out A
  cut : Out A

abbrev pub Parser : Type 0 → Type 0
Parser A = List ℕ → Out A

-- after a turn of a loop: it goes on in a state, or it has its value
pub data Turn (S B : Type 0) : Type 0 where
  again : S → Turn S B
  last : B → Turn S B

-- what s has before r
abbrev pub before : List ℕ → List ℕ → List ℕ
before s r = take (length s - length r) s

-- r stands at the same place as s, of which it is a rest
abbrev pub same_place : List ℕ → List ℕ → Bool
same_place r s = eqb (length r) (length s)

module _ {A B : Type 0} where
  abbrev pub then_out : Out A → (A → Parser B) → Out B
  then_out (done a r) f = f a r
  then_out (fault k r) f = fault k r
  then_out cut f = cut

  -- one after the other
  abbrev pub bind_p : Parser A → (A → Parser B) → Parser B
  bind_p p f s = then_out (p s) f

module _ {A : Type 0} where
  -- nothing is read
  abbrev pub ret_p : A → Parser A
  ret_p a s = done a s

  -- a fault, here
  abbrev pub bad_p : ℕ → Parser A
  bad_p k s = fault k s

  -- by the next byte, which is not read yet
  abbrev pub look_p : (ℕ → Parser A) → Parser A
  look_p f [] = cut
  look_p f (b ∷ s) = f b (b ∷ s)

  -- done without a byte read is cut: no definition here that is kept to a byte at least does so
  abbrev pub strict_out : Out A → List ℕ → Out A
  strict_out (done a r) s = cond (ltb (length r) (length s)) (done a r) cut
  strict_out (fault k r) s = fault k r
  strict_out cut s = cut

  -- a byte at least is read
  abbrev pub strict_p : Parser A → Parser A
  strict_p p s = strict_out (p s) s

  -- by the next two bytes, of which one at least is read
  abbrev pub look_two_p : (ℕ → ℕ → Parser A) → Parser A
  look_two_p f [] = cut
  look_two_p f (b ∷ []) = cut
  look_two_p f (b ∷ c ∷ s) = strict_p (f b c) (b ∷ c ∷ s)

  abbrev pub judged_to : ℕ → A → List ℕ → List ℕ → Out A
  judged_to zero a r s = done a r
  judged_to (suc k) a r s = fault (suc k) s

  abbrev pub judge_out : (A → ℕ) → Out A → List ℕ → Out A
  judge_out j (done a r) s = judged_to (j a) a r s
  judge_out j (fault k r) s = fault k r
  judge_out j cut s = cut

  -- the value is judged when it is read: 0 is well, another number is a fault at its first byte
  abbrev pub judge_p : (A → ℕ) → Parser A → Parser A
  judge_p j p s = judge_out j (p s) s

  abbrev pub settle_fault : ℕ → ℕ → List ℕ → List ℕ → Out A
  settle_fault zero k r s = fault k r
  settle_fault (suc v) k r s = cond (same_place r s) (fault (min (suc v) k) s) (fault (suc v) s)

  abbrev pub settle_out : ℕ → Out A → List ℕ → Out A
  settle_out v (done a r) s = judged_to v a r s
  settle_out v (fault k r) s = settle_fault v k r s
  settle_out v cut s = cut

  -- a fault v that is known already, at the first byte: 'nothing is judged until it has ended or is not well formed'. At one place the lowest number; 0 is no fault
  abbrev pub settle_p : ℕ → Parser A → Parser A
  settle_p v p s = settle_out v (p s) s

  abbrev pub blame_out : Out A → List ℕ → Out A
  blame_out (done a r) s = done a r
  blame_out (fault k r) s = fault k s
  blame_out cut s = cut

  -- a fault in it has its first byte for a place
  abbrev pub blame_p : Parser A → Parser A
  blame_p p s = blame_out (p s) s

  abbrev pub kept_out : Out A → List ℕ → Out (A × List ℕ)
  kept_out (done a r) s = done (a, before s r) r
  kept_out (fault k r) s = fault k r
  kept_out cut s = cut

  -- the value, and the bytes that it was read from
  abbrev pub kept_p : Parser A → Parser (A × List ℕ)
  kept_p p s = kept_out (p s) s

-- a byte
abbrev pub eat_p : Parser ℕ
eat_p [] = cut
eat_p (b ∷ s) = done b s

-- the bytes that pass the test, up to one that does not: that one is not read
abbrev pub span_p : (ℕ → Bool) → Parser (List ℕ)
span_p test [] = cut
span_p test (b ∷ s) =
    let more : Out (List ℕ) = then_out (span_p test s) (λ w. ret_p (b ∷ w)) in
    cond (test b) more (done [] (b ∷ s))

module _ {S B : Type 0} where
  -- a turn that goes on without a byte read would never end: cut. No turn of the definitions here does so
  abbrev pub turn_p : (S → Parser B) → Turn S B → List ℕ → Parser B
  turn_p k (last b) s r = done b r
  turn_p k (again st) s r = cond (ltb (length r) (length s)) (k st r) cut

  abbrev pub turn_out : (S → Parser B) → Out (Turn S B) → List ℕ → Out B
  turn_out k (done x r) s = turn_p k x s r
  turn_out k (fault n r) s = fault n r
  turn_out k cut s = cut

  -- at most n turns. A turn after which the loop goes on reads a byte at least, so that one turn more than there are bytes is enough: `zero` is never reached from `loop_p`
  abbrev pub loop_f : (S → Parser (Turn S B)) → ℕ → S → Parser B
  loop_f f zero st s = cut
  loop_f f (suc n) st s = turn_out (λ (st' : S). loop_f f n st') (f st s) s

  -- turn by turn, from state to state, to the one that gives the value; a turn after which it goes on reads a byte at least
  unfoldable pub loop_p : (S → Parser (Turn S B)) → S → Parser B
  loop_p f st s = loop_f f (suc (length s)) st s

  -- ---- how far a loop came

  abbrev pub state_turn : (S → List ℕ → S) → S → Turn S B → List ℕ → List ℕ → S
  state_turn k st (last b) s r = st
  state_turn k st (again st') s r = cond (ltb (length r) (length s)) (k st' r) st

  abbrev pub state_out : (S → List ℕ → S) → S → Out (Turn S B) → List ℕ → S
  state_out k st (done x r) s = state_turn k st x s r
  state_out k st (fault n r) s = st
  state_out k st cut s = st

  abbrev pub state_f : (S → Parser (Turn S B)) → ℕ → S → List ℕ → S
  state_f f zero st s = st
  state_f f (suc n) st s = state_out (λ (st' : S). state_f f n st') st (f st s) s

  -- the state before the loop's last turn, which gives its value, is at fault or is cut: what all whole turns before it have made
  unfoldable pub loop_state : (S → Parser (Turn S B)) → S → List ℕ → S
  loop_state f st s = state_f f (suc (length s)) st s
