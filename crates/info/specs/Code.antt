-- What the answers of the code mean.
use Rattle.std.specs.Prelude.{◌≡◌, Result, Ok, Err, List, ℕ, drop}
use Rattle.grammar.specs.Parse.{Parser, Turn, again, last, look_p, strict_p}
use Rattle.grammar.specs.Grammar.{G, ret, ◌>>◌}
use Rattle.xml.specs.Xml.{end_tag}
use Rattle.xml.specs.Elements.{info_byte}
use Rattle.xml.specs.Code.{Reads}
use Rattle.xml.specs.declared.Stop.{Stop}
use Rattle.info.specs.declared.Piece.{Piece}
use Rattle.info.specs.declared.Piece.TheVariants.{Passed, End, Child}

-- the next turn inside an element of the name w, with these children
abbrev pub info_turn : G (Unit {0}) → List ℕ → Parser (Turn (Unit {0}) (Unit {0}))
info_turn element w = look_p (λ b. (info_byte element w b).run)

-- what stands at a place inside Info, whatever the children and the name: what is passed, up to a place; the end tag; a child; or why there is no next place
abbrev pub PieceIs : List ℕ → ℕ → Result Piece Stop → Type 0
PieceIs s at (Ok (Passed e)) = (element : G (Unit {0})) (w : List ℕ) → Reads 1 (info_turn element w) (λ e. again tt) s at (Ok e)
PieceIs s at (Ok End) = (element : G (Unit {0})) (w : List ℕ) → info_turn element w (drop at s) ≡ strict_p (end_tag w 0 >> ret (last tt)).run (drop at s)
PieceIs s at (Ok Child) = (element : G (Unit {0})) (w : List ℕ) → info_turn element w (drop at s) ≡ strict_p (element >> ret (again tt)).run (drop at s)
PieceIs s at (Err stop) = (element : G (Unit {0})) (w : List ℕ) → Reads 1 (info_turn element w) (λ e. again tt) s at (Err stop)
