-- Numbers behind a start tag. Assumes nothing.
use mathlib.Core.Path.{◌≡◌, refl, ap, ◌∙◌}
use mathlib.Core.List.{List, []}
use Prim.Native.Nat.{ℕ}
use native.Mathlib.Omega.{arith}
use Rattle.decimal.specs.declared.Decimal.{Decimal}
use Rattle.grammar.specs.Parse.{Out, then_out}
use Rattle.room.specs.Room.{Room, cleared_from}
use Rattle.xml.specs.Xml.{start_tag, Tag}
use Rattle.xml.specs.Code.{Inside, Reads}
use Rattle.xml.specs.Code.{Scan}
use Rattle.std.specs.Prelude.{Ok, Err}
use Rattle.xml.specs.declared.Stop.{Stop}
use Rattle.xml.specs.declared.Stop.TheVariants.{Fault, Cut}
use Rattle.clf.specs.Numbers.{numbers, value_rules, value_element}
use Rattle.tags.specs.Rules.{rules_of}
use Rattle.tags.specs.declared.TagKind.TheVariants as Kinds
use Rattle.values.specs.Code.{NumbersRead}

pub value-rules : rules_of Kinds.Value ≡ value_rules
unfolding rules_of
value-rules = refl

inside-then : (s : List ℕ) (at e : ℕ) → Inside 1 s at (Ok e) → (r : Scan) → Inside 1 s e r → Inside 1 s at r
inside-then s at e i (Ok e₂) j = (omega (arith, i.0, j.0), j.1)
inside-then s at e i (Err (Fault x q)) j = (omega (arith, i.0, j.0), j.1)
inside-then s at e i (Err Cut) j = tt

module _ (w : List ℕ) (n : ℕ) (rule : Decimal → ℕ) (s : List ℕ) (at base : ℕ) (m₀ m₁ : Room) where
  -- its start tag at fault or cut short
  pub value-failed : (value : ℕ → Tag) (x : Stop) → Reads 1 (start_tag value_rules).run value s at (Err x) → m₁ ≡ cleared_from base m₀
      → NumbersRead n (value_element w n rule).run s at base (Err x) m₀ m₁
  unfolding value_element
  value-failed value x v q = by x v
    where
      by : (x : Stop) → Reads 1 (start_tag value_rules).run value s at (Err x) → NumbersRead n (value_element w n rule).run s at base (Err x) m₀ m₁
      by (Fault k p) v = record { xs = []; out = ap (λ (o : Out Tag). then_out o (λ t. (numbers w n rule).run)) v.out; inside = v.inside; counted = tt; room = q }
      by Cut v = record { xs = []; out = ap (λ (o : Out Tag). then_out o (λ t. (numbers w n rule).run)) v.out; inside = tt; counted = tt; room = q }

  pub value-then : (value : ℕ → Tag) (e : ℕ) (r : Scan) → Reads 1 (start_tag value_rules).run value s at (Ok e)
      → NumbersRead n (numbers w n rule).run s e base r m₀ m₁ → NumbersRead n (value_element w n rule).run s at base r m₀ m₁
  unfolding value_element
  value-then value e r v z = record {
    xs = z.xs;
    out = z.out ∙ ap (λ (o : Out Tag). then_out o (λ t. (numbers w n rule).run)) v.out;
    inside = inside-then s at e v.inside r z.inside;
    counted = z.counted;
    room = z.room;
  }
