-- The next tag behind white space and comments, and what the code's answer means.
use Rattle.std.specs.Prelude.{List, ℕ}
use Rattle.grammar.specs.Parse.{Out, done, fault, cut, Parser, Turn, again, last, loop_p}
use Rattle.std.specs.Prelude.{Result, Ok, Err}
use Rattle.xml.specs.declared.Stop.{Stop}
use Rattle.markup.specs.Items.{ItemFound, passed, starts, ends, content_item, ItemReads}
use Rattle.markup.specs.declared.Item.{Item}
use Rattle.markup.specs.declared.Item.TheVariants as Items
use Rattle.markup.specs.declared.Halt.{Halt}
use Rattle.markup.specs.declared.NextTag.{NextTag}
use Rattle.markup.specs.declared.NextTag.TheVariants.{Start, End}

-- 'white space and comments may stand .. between elements': from `at` to the place there is nothing else
pub data Passed (s : List ℕ) (at : ℕ) : ℕ → Type 0 where
  none : Passed s at at
  more : {i e : ℕ} → Passed s at i → ItemReads s i (Ok (Items.Misc e)) → Passed s at e

-- behind them, at i, stands this item
pub record Behind (s : List ℕ) (at : ℕ) (item : Result Item Stop) (i : ℕ) : Type 0 where
  pub passed : Passed s at i
  pub reads : ItemReads s i item

-- the answer for the next tag from `at` on. It is that of the parser below, in place and item (`proofs/Next`: `next-run`)
abbrev pub NextReads : List ℕ → ℕ → Result NextTag Halt → Type 0
NextReads s at (Ok (Start i e)) = Behind s at (Ok (Items.StartTag e)) i
NextReads s at (Ok (End i)) = Behind s at (Ok Items.EndTag) i
NextReads s at (Err halt) = Behind s at (Err halt.stop) halt.at

-- item by item to the first that is not passed over: the bytes from there on, and what is found in them
abbrev pub stop_at : List ℕ → Out ItemFound → Out (Turn (Unit {0}) (List ℕ × Out ItemFound))
stop_at u (done passed r) = done (again tt) r
stop_at u (done (starts w) r) = done (last (u, done (starts w) r)) u
stop_at u (done ends r) = done (last (u, done ends r)) u
stop_at u (fault k r) = done (last (u, fault k r)) u
stop_at u cut = done (last (u, cut)) u

unfoldable pub next_tag : Parser (List ℕ × Out ItemFound)
next_tag = loop_p (λ (st : Unit {0}) u. stop_at u (content_item u)) tt
