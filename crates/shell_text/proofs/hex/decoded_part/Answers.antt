use Rattle.shell_text.proofs.Laws.{bytes-half, part-beyond, part-empty, part_none, part_bytes, part-malformed}
use Rattle.shell_text.specs.Hex.{word_at}
use Rattle.scanning.specs.Steps.{part_length}
use native.Mathlib.Omega.{arith}
use mathlib.Core.Path.{refl, sym, ◌∙◌}
use Rattle.shell_text.proofs.hex.decoded_part.Goals as goal

pub returns-then-line-end : goal.returns-then-line-end
returns-then-line-end c = part-beyond _ _ _ c.if-line-end.true

pub returns-then-end-start : goal.returns-then-end-start
returns-then-end-start c = part-empty _ _ _ c.if-line-end.false c.if-end-start.true

pub returns-then-is_none : goal.returns-then-is_none
returns-then-is_none c = part_none _ _ _ c.if-line-end.false c.if-end-start.false (sym c.is_none.ensures ∙ c.if-is_none.true)

pub overflow_mul-n : goal.overflow_mul-n
overflow_mul-n c =
    let a = c.args in
    omega (arith, c.decode-n.ensures.count, bytes-half (word_at a.line.now a.start a.end), part_length a.line.now a.start a.end (omega arith) (omega arith))

pub returns-then-n-end : goal.returns-then-n-end
returns-then-n-end c =
    part-malformed _ _ _ c.if-line-end.false c.if-end-start.false (sym c.is_none.ensures ∙ c.if-is_none.false) _ _ c.decode-n.result
    c.decode-n.ensures refl c.if-n-end.true

pub returns : goal.returns
returns c =
    part_bytes _ _ _ c.if-line-end.false c.if-end-start.false (sym c.is_none.ensures ∙ c.if-is_none.false) _ _ c.decode-n.result c.decode-n.ensures refl
    c.if-n-end.false
