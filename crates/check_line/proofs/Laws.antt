-- The line of a text, and how long a text can be. Assumes nothing.
use mathlib.Core.Path.{◌≡◌}
use mathlib.Core.List.{List, ◌++◌}
use Prim.Native.Nat.{ℕ, ◌+◌, ◌≤◌, ◌<◌, ◌^◌}
use native.Mathlib.Omega.{arith}
use lib.Dec.{lit≤}
use lib.ListN.{length, replicate, length-append}
use Rattle.decimal_write.specs.Written.{digits}
use Rattle.decimal_write.specs.Laws.{digits-short}
use Rattle.process_list.specs.List.{nodes_of, total, capped}
use Rattle.std.proofs.Common.{Ok, Err}
use Rattle.reading.specs.Code.{Answer}
use Rattle.text_out.specs.Output.{Puts}
use Rattle.text_out.proofs.Laws.{puts-zeros}
use Rattle.xml.specs.Bytes.{bytes}
use Rattle.check_line.specs.Line.{line_from, accepted_text, refusal_text, answer_text}

-- the line of a text that has been put into 80 zeros
pub line-put : {s : List ℕ} {r : ℕ} (x : List ℕ) → length x ≤ 80 → r < 2 ^ 64 → Puts (λ t. x ++ t) 0 (replicate 80 0) s r → record { bytes = s; length = r } ≡ line_from x
unfolding line_from
line-put x h k p = let z = puts-zeros 80 x h (lit≤ tt) k p in rw (z.0, z.1)

-- ---- how long a line can be
short : (n : ℕ) → n < 2 ^ 64 → length (digits n) ≤ 20
short n h = digits-short n 19 (omega (arith, lit≤ {m = 2 ^ 64} {n = 10 ^ 20} tt))

text-short : (u v w : List ℕ) (m n : ℕ) → m < 2 ^ 64 → n < 2 ^ 64 → length u + (length v + length w) ≤ 40 → length (u ++ (digits m ++ (v ++ (digits n ++ w)))) ≤ 80
text-short u v w m n hm hn h = simp length-append (omega (arith, short m hm, short n hn))

capped_small : (n : ℕ) → capped n < 2 ^ 64
unfolding capped
capped_small n = omega arith

-- the numbers in an answer are those of a machine
abbrev pub Small : Answer → Type 0
Small (Ok l) = l.count < 2 ^ 64
Small (Err why) = (why.number < 2 ^ 64) × (why.place < 2 ^ 64)

pub answer-short : (a : Answer) → Small a → length (answer_text a) ≤ 80
unfolding answer_text accepted_text refusal_text
answer-short (Ok l) h = text-short (bytes "accepted ") (bytes " nodes ") (bytes " numbers\n") l.count (capped (total (nodes_of l))) h (capped_small (total (nodes_of l))) (lit≤ tt)
answer-short (Err why) h = text-short (bytes "refusal ") (bytes " at ") (bytes "\n") why.number why.place h.0 h.1 (lit≤ tt)
