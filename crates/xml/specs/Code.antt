-- What the answers of the code mean. A place of the code is an index into the slice; it stands for the bytes from there on.
use Rattle.std.specs.Prelude.{◌≡◌, List, [], ◌⊎◌, ℕ, ◌+◌, ◌-◌, ◌≤◌, ◌<◌, length, take, drop}
use Rattle.grammar.specs.Parse.{Out, done, fault, cut, Parser}
use Rattle.grammar.specs.Grammar.{ret, eat, loop, ◌>>◌}
use Prim.Native.Char.{code}
use Rattle.xml.specs.Bytes.{bytes}
use Rattle.xml.specs.Among.{name_or}
use Rattle.xml.specs.Xml.{byte, word, one_of, entity_names, entity-names, comment_part}
use Rattle.refusals.specs.Refusals as Refusal
use Rattle.std.specs.Prelude.{Result, Ok, Err}
use Rattle.xml.specs.declared.Stop.{Stop}
use Rattle.xml.specs.declared.Stop.TheVariants.{Fault, Cut}

-- what the code answers for what it reads: the next place, or why there is none
abbrev pub Scan : Type 0
Scan = Result ℕ Stop

-- the bytes of s from a up to e
abbrev pub part : List ℕ → ℕ → ℕ → List ℕ
part s a e = take (e - a) (drop a s)

-- an answer as a grammar's, whose value is given by the next place
abbrev pub scan_out : {A : Type 0} → (ℕ → A) → List ℕ → Scan → Out A
scan_out value s (Ok e) = done (value e) (drop e s)
scan_out value s (Err (Fault k p)) = fault k (drop p s)
scan_out value s (Err Cut) = cut

-- a next place is n bytes behind `at` at least; every place is within the bytes
abbrev pub Inside : ℕ → List ℕ → ℕ → Scan → Type 0
Inside n s at (Ok e) = (at + n ≤ e) × (e ≤ length s)
Inside n s at (Err (Fault k p)) = (at ≤ p) × (p ≤ length s)
Inside n s at (Err Cut) = Unit

-- the answer r is p's at the place `at`; where p is done it has taken n bytes at least. `drop` alone does not tell a place from one further behind the end, the bounds do: there is one
-- answer for every `at`, `scan_at at (drop at s) (p (drop at s))` (`CodeLaws`: `reads-placed`)
pub record Reads {A : Type 0} (n : ℕ) (p : Parser A) (value : ℕ → A) (s : List ℕ) (at : ℕ) (r : Scan) : Type 0 where
  pub out : scan_out value s r ≡ p (drop at s)
  pub inside : Inside n s at r

-- the answer for what a grammar finds in the bytes u that stand at `at`: a place is as many bytes behind `at` as have been taken
abbrev pub scan_at : {A : Type 0} → ℕ → List ℕ → Out A → Scan
scan_at at u (done a r) = Ok (at + (length u - length r))
scan_at at u (fault k r) = Err (Fault k (at + (length u - length r)))
scan_at at u cut = Err Cut

-- its place is `at`
abbrev pub Stays : ℕ → Scan → Type 0
Stays at (Ok e) = e ≡ at
Stays at (Err (Fault k p)) = p ≡ at
Stays at (Err Cut) = Unit

-- the same of a grammar that may take no byte: the bounds are told where `at` is within the bytes, and where it is behind their end the place stays what it is. There is one answer for every
-- `at` here too, the same as above (`CodeLaws`: `reads-from-placed`)
pub record ReadsFrom {A : Type 0} (n : ℕ) (p : Parser A) (value : ℕ → A) (s : List ℕ) (at : ℕ) (r : Scan) : Type 0 where
  pub out : scan_out value s r ≡ p (drop at s)
  pub inside : at ≤ length s → Inside n s at r
  pub beyond : length s < at → Stays at r

-- the value of a grammar that has none
abbrev pub no_value : ℕ → Unit {0}
no_value e = tt

-- the same answer, a fault placed at `at`
abbrev pub blamed_scan : Scan → ℕ → Scan
blamed_scan (Ok e) at = Ok e
blamed_scan (Err (Fault k p)) at = Err (Fault k at)
blamed_scan (Err Cut) at = Err Cut

-- an answer that gives no next place
abbrev pub Failed : Scan → Type 0
Failed (Ok e) = ⊥
Failed (Err stop) = Unit {0}

-- a place with a byte behind it, or the end of the bytes
abbrev pub Stops : List ℕ → Scan → Type 0
Stops s (Ok e) = e < length s
Stops s (Err (Fault k p)) = ⊥
Stops s (Err Cut) = Unit {0}

-- the answer r is that of the name w against the bytes from `at` on, `other` where they differ; a next place is no nearer than `at`.
-- There is one answer for every `at` and `other`: it is `other` itself, or one whose place has a byte behind it, which `drop` tells from every other place
pub record NameOr (s : List ℕ) (at : ℕ) (w : List ℕ) (other r : Scan) : Type 0 where
  pub out : scan_out no_value s r ≡ name_or tt (scan_out no_value s other) w (drop at s)
  pub inside : (from : ℕ) → from ≤ at → Inside 0 s from other → Inside 0 s from r
  pub told : (r ≡ other) ⊎ Stops s r

-- an `&` form and a comment, a fault in them placed where it is found
abbrev pub entity_found : Parser (Unit {0})
entity_found = (eat >> one_of [] Refusal.form_not_carried entity_names entity-names >> byte (code ";") Refusal.form_not_carried >> ret tt).run

abbrev pub comment_found : Parser (Unit {0})
comment_found = (word (bytes "<!--") Refusal.form_not_carried >> loop (λ (st : Unit {0}). comment_part) tt).run
