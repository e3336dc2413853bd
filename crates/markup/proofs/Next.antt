-- The next tag behind white space and comments: what a loop that passes them over keeps. Assumes nothing.
use mathlib.Core.Path.{◌≡◌, refl, sym, ap, ◌∙◌}
use mathlib.Core.List.{List}
use Prim.Native.Nat.{ℕ, ◌+◌, ◌-◌, ◌≤◌}
use native.Mathlib.Omega.{arith}
use lib.ListN.{length, drop, length-drop}
use Rattle.grammar.specs.Parse.{Out, done, Parser, Turn, again, last, loop_p}
use Rattle.grammar.specs.Laws.{loop-again, loop-last}
use Rattle.std.specs.Prelude.{Result, Ok, Err}
use Rattle.xml.specs.declared.Stop.{Stop}
use Rattle.xml.specs.declared.Stop.TheVariants.{Fault, Cut}
use Rattle.markup.specs.Items.{ItemFound, content_item, item_out, ItemReads}
use Rattle.markup.specs.Next.{Passed, none, more, Behind, NextReads, stop_at, next_tag}
use Rattle.markup.specs.declared.Item.{Item}
use Rattle.markup.specs.declared.Item.TheVariants.{Misc, StartTag, EndTag}
use Rattle.markup.specs.declared.Halt.{Halt}
use Rattle.markup.specs.declared.NextTag.{NextTag}
use Rattle.markup.specs.declared.NextTag.TheVariants.{Start, End}

-- an answer's place, and its item
abbrev stop_of : Result NextTag Halt → ℕ
stop_of (Ok (Start i e)) = i
stop_of (Ok (End i)) = i
stop_of (Err halt) = halt.at

abbrev item_of : Result NextTag Halt → Result Item Stop
item_of (Ok (Start i e)) = Ok (StartTag e)
item_of (Ok (End i)) = Ok EndTag
item_of (Err halt) = Err halt.stop

module _ (s : List ℕ) (at : ℕ) where
  -- what holds at `at`, and still behind each white space and each comment, holds behind all of them
  pub passed-keeps : (P : ℕ → Type 0) → ((i e : ℕ) → P i → ItemReads s i (Ok (Misc e)) → P e) → P at → {j : ℕ} → Passed s at j → P j
  passed-keeps P f p none = p
  passed-keeps P f p (more w l) = f _ _ (passed-keeps P f p w) l

  pub passed-low : {j : ℕ} → Passed s at j → at ≤ j
  passed-low w = passed-keeps (λ j. at ≤ j) (λ i e h l. omega (arith, l.inside)) (omega arith) w

  -- they stand within the bytes
  pub passed-high : {j : ℕ} → Passed s at j → j ≤ at + (length s - at)
  passed-high w = passed-keeps (λ j. j ≤ at + (length s - at)) (λ i e h l. omega (arith, l.inside)) (omega arith) w

  -- a loop whose turn at white space or a comment goes on in the same state is the loop from behind them
  pub loop-passed : {S B : Type 0} (f : S → Parser (Turn S B)) (st : S) → ((i e : ℕ) → ItemReads s i (Ok (Misc e)) → f st (drop i s) ≡ done (again st) (drop e s))
      → {j : ℕ} → Passed s at j → loop_p f st (drop at s) ≡ loop_p f st (drop j s)
  loop-passed f st g w =
      passed-keeps (λ j. loop_p f st (drop at s) ≡ loop_p f st (drop j s))
      (λ i e h l. h ∙ loop-again f st (drop i s) st (drop e s) (g i e l) (simp length-drop (omega (arith, l.inside)))) refl w

  -- the answer of the parser has the place and the item of the code's
  pub next-run : (r : Result NextTag Halt) → NextReads s at r → next_tag (drop at s) ≡ done (drop (stop_of r) s, item_out s (stop_of r) (item_of r)) (drop (stop_of r) s)
  unfolding next_tag
  next-run r v = go r v
    where
      turn : Unit {0} → Parser (Turn (Unit {0}) (List ℕ × Out ItemFound))
      turn st u = stop_at u (content_item u)

      at-stop : {item : Result Item Stop} {i : ℕ} → Behind s at item i → stop_at (drop i s) (item_out s i item) ≡ done (last (drop i s, item_out s i item)) (drop i s)
          → loop_p turn tt (drop at s) ≡ done (drop i s, item_out s i item) (drop i s)
      at-stop {item} {i} b q =
          loop-passed turn tt (λ j e l. ap (stop_at (drop j s)) (sym l.out)) b.passed
          ∙ loop-last turn tt (drop i s) (drop i s, item_out s i item) (drop i s) (ap (stop_at (drop i s)) (sym b.reads.out) ∙ q)

      halted : (i : ℕ) (stop : Stop) → stop_at (drop i s) (item_out s i (Err stop)) ≡ done (last (drop i s, item_out s i (Err stop))) (drop i s)
      halted i (Fault k p) = refl
      halted i Cut = refl

      go : (r : Result NextTag Halt) → NextReads s at r → loop_p turn tt (drop at s) ≡ done (drop (stop_of r) s, item_out s (stop_of r) (item_of r)) (drop (stop_of r) s)
      go (Ok (Start i e)) b = at-stop b refl
      go (Ok (End i)) b = at-stop b refl
      go (Err halt) b = at-stop b (halted halt.at halt.stop)
