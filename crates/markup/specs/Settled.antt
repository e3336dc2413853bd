-- Answers of the code under a fault that is known already, and the end tag before which nothing lacks.
use Rattle.std.specs.Prelude.{cond, List, ℕ, zero, suc, min, eqb}
use Rattle.grammar.specs.Grammar.{G, ret, judge, ◌>>◌}
use Rattle.xml.specs.Bytes.{same, greater_than}
use Rattle.xml.specs.Xml.{spaces, byte, close_name}
use Rattle.xml.specs.Code.{Scan}
use Rattle.std.specs.Prelude.{Ok, Err}
use Rattle.xml.specs.declared.Stop.TheVariants.{Fault, Cut}
use Rattle.refusals.specs.Refusals as Refusal

-- the answer r of what stands at `at`, where the fault v there is known already: at one place the lowest number; 0 is no fault
abbrev pub settled_scan : ℕ → Scan → ℕ → Scan
settled_scan zero r at = r
settled_scan (suc v) (Ok e) at = Err (Fault (suc v) at)
settled_scan (suc v) (Err (Fault k p)) at = cond (eqb p at) (Err (Fault (min (suc v) k) at)) (Err (Fault (suc v) at))
settled_scan (suc v) (Err Cut) at = Err Cut

-- the answer r of what stands at `at`, which is the fault k once it is done
abbrev pub refused_scan : Scan → ℕ → ℕ → Scan
refused_scan (Ok e) k at = Err (Fault k at)
refused_scan (Err stop) k at = Err stop

-- white space, if any, and the byte c, or 2
abbrev pub spaces_byte : ℕ → G (Unit {0})
spaces_byte c = spaces >> byte c Refusal.not_well_formed >> ret tt

-- an end tag of the name w, whatever lacks before it
abbrev pub end_alone : List ℕ → G (Unit {0})
end_alone w = judge (λ n. cond (same n w) 0 Refusal.not_well_formed) close_name >> spaces >> byte greater_than Refusal.not_well_formed >> ret tt
