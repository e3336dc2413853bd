-- The list that reading gives has the nodes of the reading, and as many numbers. Assumes nothing.
use mathlib.Core.Path.{◌≡◌, refl, ap, ◌∙◌}
use mathlib.Core.Bool.{Bool, true, false, cond}
use mathlib.Core.List.{List, map}
use Prim.Native.Nat.{ℕ, ◌≤◌}
use native.Mathlib.Omega.{arith}
use lib.Dec.{ltb}
use lib.ListN.{length}
use Rattle.std.proofs.Common.{Ok, Err}
use Rattle.process_list.specs.declared.Node.{Node}
use Rattle.process_list.specs.List.{Verdict, Element, node_of, nodes_of, list_of, placed, total, capped, verdict, most_nodes}
use Rattle.process_list.proofs.Laws.{capped-exact}
use Rattle.process_list.proofs.Lists.{list-nodes, list_count, total-place, placed-length, heads-length, Fine, accepted-fine}
use Rattle.grammar.specs.Parse.{Out, done, fault, cut}
use Rattle.clf.specs.List.{Document, document, tail}
use Rattle.clf.specs.Reading.{Reading, accepted, faulty, unfit, reading_by, list_reading, tail_reading, text_reading, read_text, read, most_bytes}
use Rattle.reading.specs.Code.{Answer, reading_answer}
use Rattle.reading.specs.Counts.{node_count, number_count}

-- ---- an accepted reading's list was judged, and found right
abbrev Judged : ℕ → Reading → Type 0
Judged room (accepted l) = verdict room l ≡ Ok tt
Judged room (faulty k p) = Unit {0}
Judged room (unfit k p) = Unit {0}

by-verdict : (room : ℕ) (l : List Element) (v : Verdict) → verdict room l ≡ v → Judged room (reading_by l v)
by-verdict room l (Ok u) e = e
by-verdict room l (Err why) e = tt

list-judged : (room : ℕ) (l : List Element) → Judged room (list_reading room l)
unfolding list_reading
list-judged room l = by-verdict room l (verdict room l) refl

tail-judged : (room : ℕ) (s : List ℕ) (d : Document) (o : Out (Unit {0})) → Judged room (tail_reading room s d o)
tail-judged room s d (done u r) = list-judged room _
tail-judged room s d (fault k r) = tt
tail-judged room s d cut = tt

text-judged : (room : ℕ) (s : List ℕ) (o : Out Document) → Judged room (text_reading room s o)
text-judged room s (done d r) = tail-judged room s d (tail r)
text-judged room s (fault k r) = tt
text-judged room s cut = tt

cond-judged : (room : ℕ) (b : Bool) (x y : Reading) → Judged room x → Judged room y → Judged room (cond b x y)
cond-judged room true x y p q = p
cond-judged room false x y p q = q

read-judged : (room : ℕ) (s : List ℕ) → Judged room (read room s)
unfolding read read_text
read-judged room s = cond-judged room (ltb most_bytes (length s)) (faulty 4 0) (text_reading room s (document.run s)) tt (text-judged room s (document.run s))

-- ---- the list of accepted elements
module _ (room : ℕ) (es : List Element) (e : verdict room es ≡ Ok tt) where
  fine : Fine room (map node_of es)
  unfolding verdict
  fine = accepted-fine room (map node_of es) e

  few : length (placed es) ≤ most_nodes
  few = omega (arith, placed-length es, heads-length es, fine.few)

  count-is : (list_of (placed es)).count ≡ length es
  count-is = list_count (placed es) few ∙ placed-length es

  placed_total : total (placed es) ≡ total (map node_of es)
  unfolding placed
  placed_total = total-place 0 (map node_of es)

  numbers-are : capped (total (nodes_of (list_of (placed es)))) ≡ total (map node_of es)
  numbers-are = ap (λ (ns : List Node). capped (total ns)) (list-nodes (placed es) few) ∙ ap capped placed_total ∙ capped-exact _ (omega (arith, fine.holds))

-- ---- the list of a reading

-- how many nodes and numbers an answer's list has, none where there is no list
abbrev pub count_of : Answer → ℕ
count_of (Ok l) = l.count
count_of (Err why) = 0

abbrev pub numbers_in : Answer → ℕ
numbers_in (Ok l) = capped (total (nodes_of l))
numbers_in (Err why) = 0

counts : (room : ℕ) (r : Reading) → Judged room r → count_of (reading_answer r) ≡ node_count r
unfolding reading_answer
counts room (accepted l) j = count-is room l j
counts room (faulty k p) j = refl
counts room (unfit k p) j = refl

numbers : (room : ℕ) (r : Reading) → Judged room r → numbers_in (reading_answer r) ≡ number_count r
unfolding reading_answer total
numbers room (accepted l) j = numbers-are room l j
numbers room (faulty k p) j = refl
numbers room (unfit k p) j = refl

module _ (room : ℕ) (s : List ℕ) (a : Answer) (e : a ≡ reading_answer (read room s)) where
  pub answer-count : count_of a ≡ node_count (read room s)
  answer-count = ap count_of e ∙ counts room (read room s) (read-judged room s)

  pub answer-numbers : numbers_in a ≡ number_count (read room s)
  answer-numbers = ap numbers_in e ∙ numbers room (read room s) (read-judged room s)
