-- An element without fault, by its parts. Assumes nothing.
use mathlib.Core.Path.{◌≡◌, refl}
use mathlib.Core.Bool.{Bool, true, false, ◌&&◌}
use mathlib.Core.List.{List, [], ◌∷◌}
use lib.ListN.{length}
use borrow.Author.Tests.{eq-eqb}
use Rattle.decimal.specs.declared.Decimal.{Decimal}
use Rattle.process_list.specs.declared.Depth.{Depth}
use Rattle.process_list.specs.declared.Kind.{Kind}
use Rattle.process_list.specs.List.{Element, numbers_of}
use Rattle.ids.specs.Ids.{id_allowed}
use Rattle.valid.specs.Valid.{every, carried, shape_right, rules_hold, depths_right, sound}
use Rattle.grammar.specs.Laws.{nope}
use Rattle.claims.proofs.Numbers.{Each, Carried}

pub and-true : (a b : Bool) → (a && b) ≡ true → (a ≡ true) × (b ≡ true)
and-true true b h = (refl, h)
and-true false b h = nope cc

carried-true : (d : Decimal) → Carried d → carried d ≡ true
unfolding carried
carried-true d c = rw (c.ranged, c.settled)

pub every_true : {A : Type 0} (p : A → Bool) (l : List A) → Each (λ a. p a ≡ true) l → every p l ≡ true
unfolding every
every_true p [] h = refl
every_true p (x ∷ l) h = rw (h.0, every_true p l h.1)

every-carried : (l : List Decimal) → Each Carried l → every carried l ≡ true
unfolding every
every-carried [] h = refl
every-carried (x ∷ l) h = rw (carried-true x h.0, every-carried l h.1)

-- all but its id
pub record Right (kind : Kind) (input output : Depth) (ns : List Decimal) : Type 0 where
  pub shape : shape_right kind ≡ true
  pub count : length ns ≡ numbers_of kind
  pub each : Each Carried ns
  pub rules : rules_hold kind ns ≡ true
  pub depths : depths_right kind input output ≡ true

pub sound-by : (e : Element) → id_allowed e.id ≡ true → Right e.kind e.input e.output e.numbers → sound e ≡ true
unfolding sound
sound-by e i r = rw (r.shape, eq-eqb (length e.numbers) (numbers_of e.kind) r.count, every-carried e.numbers r.each, r.rules, r.depths, i)
