-- What the answers of the code mean.
use Rattle.std.specs.Prelude.{cond, List, ℕ, ◌+◌}
use Rattle.grammar.specs.Parse.{Parser, then_out, blame_out}
use Rattle.xml.specs.Bytes.{bytes, same}
use Rattle.xml.specs.Xml.{word}
use Rattle.xml.specs.Code.{Scan}
use Rattle.std.specs.Prelude.{Ok, Err}
use Rattle.xml.specs.declared.Stop.TheVariants.{Fault}
use Rattle.tags.specs.Code.{part_in}
use Rattle.clf.specs.List.{declaration, prologue}
use Rattle.refusals.specs.Refusals as Refusal

-- the declaration, and what stands before the root, to the end of its name
unfoldable pub before_root : Parser (Unit {0})
before_root s = then_out (blame_out ((word declaration Refusal.form_not_carried).run s) s) (λ u. prologue.run)

-- a start tag before the root, whose `<` stands at `at` and whose name ends at e: the root's own, or 5
unfoldable pub root_scan : List ℕ → ℕ → ℕ → Scan
root_scan s at e = cond (same (part_in s (at + 1) e) (bytes "ProcessList")) (Ok e) (Err (Fault 5 at))
