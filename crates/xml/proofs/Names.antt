-- Names, by their first bytes. Assumes nothing.
use mathlib.Core.Path.{◌≡◌, refl, sym, ap, ◌∙◌}
use mathlib.Core.Bool.{Bool, true, false, cond}
use mathlib.Core.List.{List}
use Prim.Native.Nat.{ℕ, ◌+◌, ◌≤◌, ◌<◌}
use native.Mathlib.Omega.{arith}
use lib.ListN.{length, get_or, drop}
use Rattle.scanning.specs.Steps.{here}
use Rattle.grammar.specs.Parse.{done, eat_p, span_p}
use Rattle.grammar.specs.Grammar.{span, bad}
use Rattle.xml.specs.Bytes.{is_letter, is_name_byte}
use Rattle.xml.specs.Xml.{name, open_name, close_name}
use Rattle.xml.specs.Code.{part, Reads}
use Rattle.xml.specs.CodeLaws.{reads-ended, look_at, reads-eat, reads_then, span-first}
use Rattle.xml.proofs.Tests.{letter-in-name}
use Rattle.xml.specs.Code.{Scan}
use Rattle.std.specs.Prelude.{Ok, Err}
use Rattle.xml.specs.declared.Stop.TheVariants.{Fault, Cut}

module _ (s : List ℕ) (at : ℕ) where
  pub name-cut : length s ≤ at → Reads 1 name.run (part s at) s at (Err Cut)
  unfolding name
  name-cut h = reads-ended name.run (part s at) s at 1 refl h

  pub open-cut : length s ≤ at → Reads 2 open_name.run (part s (at + 1)) s at (Err Cut)
  unfolding open_name
  open-cut h = reads-ended open_name.run (part s (at + 1)) s at 2 refl h

  pub close-cut : length s ≤ at → Reads 3 close_name.run (part s (at + 2)) s at (Err Cut)
  unfolding close_name
  close-cut h = reads-ended close_name.run (part s (at + 2)) s at 3 refl h

  module _ (h : at < length s) where
    by-letter : (t : Bool) → is_letter (get_or s at 0) ≡ t → name.run (drop at s) ≡ (cond t (span is_name_byte) (bad 2)).run (drop at s)
    unfolding name
    by-letter t q =
        look_at (λ b. (cond (is_letter b) (span is_name_byte) (bad 2)).run) s at h ∙ ap (λ (t : Bool). (cond t (span is_name_byte) (bad 2)).run (drop at s)) q

    pub name-first : (r : Scan) → is_letter (get_or s at 0) ≡ true → Reads 0 (span_p is_name_byte) (part s (at + 1)) s (at + 1) r → Reads 1 name.run (part s at) s at r
    name-first r q v =
        let w : Reads 1 (span_p is_name_byte) (part s at) s at r = span-first is_name_byte 0 s at r h (letter-in-name (get_or s at 0) q) v in
        record { out = w.out ∙ sym (by-letter true q); inside = w.inside }

    pub name-other : is_letter (get_or s at 0) ≡ false → Reads 1 name.run (part s at) s at (Err (Fault 2 at))
    name-other q = record { out = sym (by-letter false q); inside = (omega arith, omega arith) }

    pub open-name : (r : Scan) → Reads 1 name.run (part s (at + 1)) s (at + 1) r → Reads 2 open_name.run (part s (at + 1)) s at r
    unfolding open_name
    open-name r v = reads_then eat_p (λ e. get_or s at 0) (λ b. name.run) (part s (at + 1)) s at 1 1 (at + 1) r (reads-eat s at h) v

    close-run : close_name.run (drop at s) ≡ open_name.run (drop (at + 1) s)
    unfolding close_name open_name
    close-run = ap close_name.run (here s at h)

    pub close-name : (r : Scan) → Reads 2 open_name.run (part s (at + 1 + 1)) s (at + 1) r → Reads 3 close_name.run (part s (at + 2)) s at r
    close-name r v = go r v
      where
        z : at + 2 ≡ at + 1 + 1
        z = omega arith

        go : (r : Scan) → Reads 2 open_name.run (part s (at + 1 + 1)) s (at + 1) r → Reads 3 close_name.run (part s (at + 2)) s at r
        go (Ok e) v = record { out = ap (λ (n : ℕ). done (part s n e) (drop e s)) z ∙ v.out ∙ sym close-run; inside = (omega (arith, v.inside), v.inside.1) }
        go (Err (Fault k q)) v = record { out = v.out ∙ sym close-run; inside = (omega (arith, v.inside), v.inside.1) }
        go (Err Cut) v = record { out = v.out ∙ sym close-run; inside = tt }
