-- What begins between elements, and what the answers of the code mean.
use Rattle.std.specs.Prelude.{◌≡◌, cond, List, [], ◌∷◌, ℕ, ◌+◌, ◌-◌, ◌≤◌, length, drop, eqb}
use Rattle.grammar.specs.Parse.{Out, done, fault, cut, Parser, then_out, ret_p, look_p, settle_p}
use Rattle.xml.specs.Bytes.{is_space, less_than, slash, exclamation, question, ampersand}
use Rattle.xml.specs.Xml.{comment, entity, open_name}
use Rattle.xml.specs.Code.{part}
use Rattle.std.specs.Prelude.{Result, Ok, Err}
use Rattle.xml.specs.declared.Stop.{Stop}
use Rattle.xml.specs.declared.Stop.TheVariants.{Fault, Cut}
use Rattle.markup.specs.declared.Item.{Item}
use Rattle.markup.specs.declared.Item.TheVariants as Items
use Rattle.refusals.specs.Refusals as Refusal

-- what stands between elements, by its first bytes: white space or a comment, which is passed; a start tag of a name; an end tag, of which nothing is read yet
pub data ItemFound : Type 0 where
  passed : ItemFound
  starts : List ℕ → ItemFound
  ends : ItemFound

abbrev pub markup_item : ℕ → Parser ItemFound
markup_item b s =
    cond (eqb b slash) (done ends s)
    (cond (eqb b exclamation) (then_out (comment.run s) (λ u. ret_p passed))
    (cond (eqb b question) (fault Refusal.form_not_carried s)
    (then_out (open_name.run s) (λ w. ret_p (starts w)))))

abbrev pub item_by_two : Parser ItemFound
item_by_two [] = cut
item_by_two (a ∷ []) = cut
item_by_two (a ∷ b ∷ s) = markup_item b (a ∷ b ∷ s)

-- the bytes behind the first
abbrev pub behind_one : List ℕ → List ℕ
behind_one [] = []
behind_one (b ∷ s) = s

abbrev pub item_by_byte : ℕ → Parser ItemFound
item_by_byte b s =
    cond (is_space b) (done passed (behind_one s))
    (cond (eqb b less_than) (item_by_two s)
    (cond (eqb b ampersand) (then_out (settle_p Refusal.wrong_element entity.run s) (λ u. ret_p passed)) (fault Refusal.wrong_element s)))

unfoldable pub content_item : Parser ItemFound
content_item = look_p item_by_byte

abbrev pub item_out : List ℕ → ℕ → Result Item Stop → Out ItemFound
item_out s at (Ok (Items.Misc e)) = done passed (drop e s)
item_out s at (Ok (Items.StartTag e)) = done (starts (part s (at + 1) e)) (drop e s)
item_out s at (Ok Items.EndTag) = done ends (drop at s)
item_out s at (Err (Fault k p)) = fault k (drop p s)
item_out s at (Err Cut) = cut

abbrev pub ItemInside : List ℕ → ℕ → Result Item Stop → Type 0
ItemInside s at (Ok (Items.Misc e)) = (at + 1 ≤ e) × (e ≤ length s)
ItemInside s at (Ok (Items.StartTag e)) = (at + 2 ≤ e) × (e ≤ length s)
ItemInside s at (Ok Items.EndTag) = at + 2 ≤ length s
ItemInside s at (Err (Fault k p)) = (at ≤ p) × (p ≤ length s)
ItemInside s at (Err Cut) = Unit

-- the answer for what is found in the bytes u that stand at `at`: a place is as many bytes behind `at` as have been taken
abbrev pub item_placed : ℕ → List ℕ → Out ItemFound → Result Item Stop
item_placed at u (done passed r) = Ok (Items.Misc (at + (length u - length r)))
item_placed at u (done (starts w) r) = Ok (Items.StartTag (at + (length u - length r)))
item_placed at u (done ends r) = Ok Items.EndTag
item_placed at u (fault k r) = Err (Fault k (at + (length u - length r)))
item_placed at u cut = Err Cut

-- the answer r for what stands at `at`. There is one for every `at`: `item_placed at (drop at s) (content_item (drop at s))` (`proofs/ItemLaws`: `item-placed`)
pub record ItemReads (s : List ℕ) (at : ℕ) (r : Result Item Stop) : Type 0 where
  pub out : item_out s at r ≡ content_item (drop at s)
  pub inside : ItemInside s at r

-- the same of another parser of the first bytes
pub record ItemReadsBy (p : Parser ItemFound) (s : List ℕ) (at : ℕ) (r : Result Item Stop) : Type 0 where
  pub out : item_out s at r ≡ p (drop at s)
  pub inside : ItemInside s at r
