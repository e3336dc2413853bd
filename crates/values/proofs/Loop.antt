-- The numbers of an element, as the code goes through them. Assumes nothing.
use mathlib.Core.Path.{◌≡◌, refl, sym, ap, ◌∙◌, subst}
use mathlib.Core.Bool.{Bool, true, false, cond}
use mathlib.Core.List.{List, [], ◌∷◌, ◌++◌}
use Prim.Native.Nat.{ℕ, suc, ◌+◌, ◌≤◌, ◌<◌, min}
use native.Mathlib.Omega.{arith}
use lib.ListN.{length, drop, get_or, length-drop, length-append}
use lib.Dec.{eqb, ltb}
use borrow.Author.Tests.{eq-eqb, ne_eqb, ltb-true, ltb-false}
use Rattle.decimal.specs.declared.Decimal.{Decimal}
use Rattle.decimal_read.specs.Number.{token_of}
use Rattle.scanning.specs.Steps.{here, past}
use Rattle.grammar.specs.Parse.{Out, done, fault, cut, Turn, again, last, then_out, ret_p, bad_p, look_p, strict_out, settle_out, loop_p}
use Rattle.grammar.specs.Grammar.{G, ret, bad, eat, judge, settle, seq, ◌>>◌}
use Rattle.grammar.specs.Laws.{nope, loop-again, loop-last, loop-cut, loop-fault}
use Rattle.room.specs.Room.{Room}
use Rattle.room.proofs.Rooms.{RoomFrom}
use Rattle.xml.specs.Bytes.{is_space, same, slash, greater_than, exclamation, question}
use Rattle.xml.specs.Xml.{spaces, byte, comment, open_name, close_name, end_tag}
use Rattle.xml.specs.Elements.{forbidden, only_end}
use Rattle.xml.specs.Code.{Reads, no_value}
use Rattle.xml.specs.CodeLaws.{look_at}
use Rattle.xml.specs.Code.{Scan}
use Rattle.std.specs.Prelude.{Ok, Err}
use Rattle.xml.specs.declared.Stop.{Stop}
use Rattle.xml.specs.declared.Stop.TheVariants.{Fault, Cut}
use Rattle.clf.specs.Numbers.{ends_token, token, said_by, fault_of, number_byte, numbers}
use Rattle.values.specs.Code.{number_token, TokenReads, Laid, NumbersStored}
use Rattle.values.specs.declared.TokenRead.{TokenRead}
use Rattle.values.proofs.Tokens.{ends-neither}
use Rattle.values.proofs.Stored.{laid-none-yet, laid_then, laid_from}

-- ---- what lacks at an end tag is a fault

abbrev NotDone : {A : Type 0} → Out A → Type 0
NotDone (done a r) = ⊥
NotDone (fault k r) = Unit {0}
NotDone cut = Unit {0}

module _ {A : Type 0} where
  strict-not : (o : Out A) (s : List ℕ) → NotDone o → NotDone (strict_out o s)
  strict-not (done a r) s h = absurd h
  strict-not (fault k r) s h = tt
  strict-not cut s h = tt

  settle-not : (v : ℕ) (o : Out A) (s : List ℕ) → NotDone (settle_out (suc v) o s)
  settle-not v (done a r) s = tt
  settle-not v (fault k r) s = go (eqb (length r) (length s))
    where
      go : (t : Bool) → NotDone {A = A} (cond t (fault (min (suc v) k) s) (fault (suc v) s))
      go true = tt
      go false = tt
  settle-not v cut s = tt

bad-not : {B : Type 0} (o : Out B) (k : ℕ) → NotDone {A = Unit {0}} (then_out o (λ b. bad_p k))
bad-not (done a r) k = tt
bad-not (fault j r) k = tt
bad-not cut k = tt

stranger-not : (b : ℕ) (s : List ℕ) → NotDone {A = Unit {0}} ((forbidden b).run s)
stranger-not b s = go (eqb b exclamation) (eqb b question)
  where
    go : (x y : Bool) → NotDone {A = Unit {0}} ((cond x (settle 3 comment >> bad 3) (cond y (bad 3) (judge (λ w. 5) open_name >> bad 5))).run s)
    go true y = bad-not ((settle 3 comment).run s) 3
    go false true = tt
    go false false = bad-not ((judge (λ w. 5) open_name).run s) 5

end-not : (w : List ℕ) (v : ℕ) (s : List ℕ) → NotDone ((only_end w (suc v)).run s)
unfolding only_end end_tag
end-not w v [] = tt
end-not w v (a ∷ []) = tt
end-not w v (a ∷ b ∷ s) = strict-not ((cond (eqb b slash) (end_tag w (suc v)) (forbidden b)).run (a ∷ b ∷ s)) (a ∷ b ∷ s) (go (eqb b slash))
  where
    go : (t : Bool) → NotDone ((cond t (end_tag w (suc v)) (forbidden b)).run (a ∷ b ∷ s))
    go true = settle-not v ((judge (λ n. cond (same n w) 0 2) close_name >> spaces >> byte greater_than 2 >> ret tt).run (a ∷ b ∷ s)) (a ∷ b ∷ s)
    go false = stranger-not b (a ∷ b ∷ s)

-- ---- the loop

module _ (w : List ℕ) (n : ℕ) (rule : Decimal → ℕ) where
  -- one turn, after the numbers of a list; and all that follow
  abbrev turns : List Decimal → List ℕ → Out (Turn (List Decimal) (List Decimal))
  turns l = look_p (λ b. (number_byte w n rule l b).run)

  abbrev runs : List Decimal → List ℕ → Out (List Decimal)
  runs = loop_p turns

  -- the numbers so far stand in the room, and the rest is read at what is left of the bytes
  pub record NumbersInv (s : List ℕ) (at base : ℕ) (m₀ : Room) (i count : ℕ) (m : Room) : Type 0 where
    pub xs : List Decimal
    pub counted : count ≡ length xs
    pub low : at + count ≤ i
    pub most : count ≤ n
    pub out : runs [] (drop at s) ≡ runs xs (drop i s)
    pub room : Laid base xs m₀ m

  pub numbers-start : (s : List ℕ) (at base : ℕ) (m : Room) → NumbersInv s at base m at 0 m
  numbers-start s at base m = record { xs = []; counted = refl; low = omega arith; most = omega arith; out = refl; room = laid-none-yet base m }

module _ {w : List ℕ} {n : ℕ} {rule : Decimal → ℕ} {s : List ℕ} {at base : ℕ} {m₀ : Room} {i count : ℕ} {m : Room} (v : NumbersInv w n rule s at base m₀ i count m) where
  abbrev one : List Decimal → List ℕ → Out (Turn (List Decimal) (List Decimal))
  one = turns w n rule

  abbrev run : List Decimal → List ℕ → Out (List Decimal)
  run = runs w n rule

  abbrev Read : Scan → Type 0
  Read r = NumbersStored n (numbers w n rule).run s at base r m₀ m

  -- nothing has changed but the room from `base` on
  pub numbers-from : RoomFrom base m₀ m
  numbers-from = laid_from base v.xs m₀ m v.room

  numbers-cut : run v.xs (drop i s) ≡ cut → Read (Err Cut)
  unfolding numbers
  numbers-cut q = record { xs = v.xs; out = sym (v.out ∙ q); inside = tt; counted = tt; room = v.room }

  numbers-fault : (k q : ℕ) → i ≤ q → q ≤ length s → run v.xs (drop i s) ≡ fault k (drop q s) → Read (Err (Fault k q))
  unfolding numbers
  numbers-fault k q h j e = record { xs = v.xs; out = sym (v.out ∙ e); inside = (omega (arith, v.low), j); counted = tt; room = v.room }

  -- the bytes have ended
  pub numbers-ended : length s ≤ i → Read (Err Cut)
  numbers-ended h = numbers-cut (ap (run v.xs) (past s i h) ∙ loop-cut one v.xs [] refl)

  module _ (h : i < length s) where
    abbrev a_token : G (Turn (List Decimal) (List Decimal))
    a_token = seq (judge (λ t. fault_of n rule (length v.xs) (token_of t.1)) token) (λ t. ret (again (v.xs ++ said_by (token_of t.1) ∷ [])))

    abbrev choose : Bool → Bool → G (Turn (List Decimal) (List Decimal))
    choose x y = cond x (eat >> ret (again v.xs)) (cond y (only_end w (cond (ltb (length v.xs) n) 22 0) >> ret (last v.xs)) a_token)

    turn : (x y : Bool) → is_space (get_or s i 0) ≡ x → eqb (get_or s i 0) 60 ≡ y → one v.xs (drop i s) ≡ (choose x y).run (drop i s)
    turn x y qx qy =
        look_at (λ b. (number_byte w n rule v.xs b).run) s i h
        ∙ ap (λ (t : Bool). (choose t (eqb (get_or s i 0) 60)).run (drop i s)) qx
        ∙ ap (λ (t : Bool). (choose x t).run (drop i s)) qy

    pub numbers-space : is_space (get_or s i 0) ≡ true → NumbersInv w n rule s at base m₀ (i + 1) count m
    numbers-space q = record {
      xs = v.xs;
      counted = v.counted;
      low = omega (arith, v.low);
      most = v.most;
      out =
          v.out ∙ loop-again one v.xs (drop i s) v.xs (drop (i + 1) s) (turn true (eqb (get_or s i 0) 60) q refl ∙ ap (eat >> ret (again v.xs)).run (here s i h))
          (omega (arith, ap length (here s i h)));
      room = v.room;
    }

    module _ (ns : is_space (get_or s i 0) ≡ false) where
      module _ (l : get_or s i 0 ≡ 60) where
        end-turn : one v.xs (drop i s) ≡ then_out ((only_end w (cond (ltb count n) 22 0)).run (drop i s)) (λ u. ret_p (last v.xs))
        end-turn = turn false true ns (eq-eqb (get_or s i 0) 60 l) ∙ ap (λ (k : ℕ). then_out ((only_end w (cond (ltb k n) 22 0)).run (drop i s)) (λ u. ret_p (last v.xs))) (sym v.counted)

        all_there : (e : ℕ) → (t : Bool) → ltb count n ≡ t → done tt (drop e s) ≡ (only_end w (cond t 22 0)).run (drop i s) → length v.xs ≡ n
        all_there e true q z = absurd (subst (λ (o : Out (Unit {0})). NotDone o) (sym z) (end-not w 21 (drop i s)))
        all_there e false q z = let f : n ≤ count = ltb-false count n q in omega (arith, v.counted, v.most)

        -- the end tag, or what stands in its place
        pub numbers-end : (k : ℕ) (r : Scan) → k ≡ cond (ltb count n) 22 0 → Reads 1 (only_end w k).run no_value s i r → Read r
        unfolding numbers
        numbers-end k r q u = go r (rw q at u)
          where
            K : Out (Unit {0}) → Out (Turn (List Decimal) (List Decimal))
            K o = then_out o (λ u. ret_p (last v.xs))

            go : (r : Scan) → Reads 1 (only_end w (cond (ltb count n) 22 0)).run no_value s i r → Read r
            go (Ok e) u =
                let j : (i + 1 ≤ e) × (e ≤ length s) = u.inside in
                record {
                  xs = v.xs;
                  out = sym (v.out ∙ loop-last one v.xs (drop i s) v.xs (drop e s) (end-turn ∙ ap K (sym u.out)));
                  inside = (omega (arith, v.low), j.1);
                  counted = all_there e (ltb count n) refl u.out;
                  room = v.room;
                }
            go (Err (Fault k e)) u = numbers-fault k e u.inside.0 u.inside.1 (loop-fault one v.xs (drop i s) k (drop e s) (end-turn ∙ ap K (sym u.out)))
            go (Err Cut) u = numbers-cut (loop-cut one v.xs (drop i s) (end-turn ∙ ap K (sym u.out)))

      module _ (nl : get_or s i 0 ≡ 60 → ⊥) where
        abbrev K : Out Decimal → Out (Turn (List Decimal) (List Decimal))
        K o = then_out o (λ d. ret_p (again (v.xs ++ d ∷ [])))

        apart : (o : Out ((Unit {0}) × List ℕ))
            → then_out {B = Turn (List Decimal) (List Decimal)} o (λ t. ret_p (again (v.xs ++ said_by (token_of t.1) ∷ []))) ≡ then_out (then_out o (λ t. ret_p (said_by (token_of t.1))))
            (λ d. ret_p (again (v.xs ++ d ∷ [])))
        apart (done t r) = refl
        apart (fault k r) = refl
        apart cut = refl

        token-turn : one v.xs (drop i s) ≡ K ((number_token n rule count).run (drop i s))
        token-turn =
            turn false false ns (ne_eqb (get_or s i 0) 60 nl)
            ∙ apart ((judge (λ t. fault_of n rule (length v.xs) (token_of t.1)) token).run (drop i s))
            ∙ ap (λ (k : ℕ). K ((number_token n rule k).run (drop i s))) (sym v.counted)

        -- a token takes a byte at least
        forward : (e : ℕ) → i ≤ e → ends_token (get_or s e 0) ≡ true → i < e
        forward e j q = go (ltb i e) refl
          where
            go : (t : Bool) → ltb i e ≡ t → i < e
            go true z = ltb-true i e z
            go false z =
                let f : e ≤ i = ltb-false i e z in
                let g : i ≡ e = omega arith in
                let y : ends_token (get_or s i 0) ≡ true = rw g q in
                nope (cc (ends-neither (get_or s i 0) ns nl))

        module _ (t : TokenRead) (r : TokenReads n rule count s i (Ok t)) where
          pub token-forward : (i < t.end) × (t.end ≤ length s)
          token-forward = (forward t.end r.inside.1 r.inside.3, r.inside.2)

          -- one number more
          pub numbers-token : (m₁ : Room) → Laid (base + count) (t.number ∷ []) m m₁ → NumbersInv w n rule s at base m₀ t.end (count + 1) m₁
          numbers-token m₁ z =
              let j : i < t.end = token-forward.0 in
              record {
                xs = v.xs ++ t.number ∷ [];
                counted = rw v.counted (sym (length-append v.xs (t.number ∷ [])));
                low = omega (arith, v.low);
                most = omega (arith, r.inside.0);
                out =
                    v.out ∙ loop-again one v.xs (drop i s) (v.xs ++ t.number ∷ []) (drop t.end s) (token-turn ∙ ap K (sym r.out)) (simp length-drop (omega (arith, token-forward)));
                room = laid_then base v.xs (t.number ∷ []) m₀ m m₁ v.room (rw v.counted at z);
              }

        -- a token at fault or cut short
        pub numbers-stop : (x : Stop) → TokenReads n rule count s i (Err x) → Read (Err x)
        numbers-stop (Fault k q) t = numbers-fault k q t.inside.0 t.inside.1 (loop-fault one v.xs (drop i s) k (drop q s) (token-turn ∙ ap K (sym t.out)))
        numbers-stop Cut t = numbers-cut (loop-cut one v.xs (drop i s) (token-turn ∙ ap K (sym t.out)))
