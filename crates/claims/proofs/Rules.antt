-- Every accepted list keeps all rules of documents 01 and 02; with its room it is what refusal 16 asks for. Assumes nothing.
use mathlib.Core.Path.{◌≡◌, refl}
use mathlib.Core.Bool.{Bool, true, false, cond}
use mathlib.Core.List.{List, map}
use Prim.Native.Nat.{ℕ, ◌≤◌}
use native.Mathlib.Omega.{arith}
use borrow.Author.Tests.{ltb-false}
use lib.Dec.{ltb}
use lib.ListN.{length}
use Rattle.std.proofs.Common.{Ok}
use Rattle.process_list.specs.List.{Element, node_of, verdict}
use Rattle.process_list.proofs.Lists.{heads-length, Fine, accepted-fine}
use Rattle.room.specs.Room.{room_length}
use Rattle.valid.specs.Valid.{every, sound}
use Rattle.valid.proofs.Readings.{all-length, made}
use Rattle.grammar.specs.Laws.{nope}
use Rattle.clf.specs.Reading.{accepted, faulty, most_bytes, read_text, read}
use Rattle.claims.specs.Rules.{Allowed}
use Rattle.claims.proofs.Sound.{every_true}
use Rattle.claims.proofs.Accepted.{Whole, text-whole}
use Rattle.claims.proofs.Unique.{unique-from}
use Rattle.claims.specs.Theorems.{AcceptedKeepsRules, AcceptedIsValid}

-- what is accepted is at most 16 MiB, and accepted without that limit
pub record Short (room : ℕ) (s : List ℕ) (l : List Element) : Type 0 where
  pub most : length s ≤ most_bytes
  pub text : read_text room s ≡ accepted l

pub read_short : (room : ℕ) (s : List ℕ) (l : List Element) → read room s ≡ accepted l → Short room s l
unfolding read
read_short room s l e = go (ltb most_bytes (length s)) refl e
  where
    go : (v : Bool) → ltb most_bytes (length s) ≡ v → cond v (faulty 4 0) (read_text room s) ≡ accepted l → Short room s l
    go true q z = nope cc
    go false q z = record { most = ltb-false most_bytes (length s) q; text = z }

-- the elements of an accepted list
pub record WholeElements (room : ℕ) (es : List Element) : Type 0 where
  pub sounds : every sound es ≡ true
  pub fits : verdict room es ≡ Ok tt

pub text-elements : (room : ℕ) (s : List ℕ) (l : List Element) → read_text room s ≡ accepted l → WholeElements room l
text-elements room s l e =
    let w : Whole room l = text-whole room s l e in
    record { sounds = every_true sound l w.nodes; fits = w.fits }

pub whole-rules : (room : ℕ) (l : List Element) → WholeElements room l → Allowed room l
unfolding verdict
whole-rules room l w =
    let f : Fine room (map node_of l) = accepted-fine room (map node_of l) w.fits in
    let n : length (map node_of l) ≡ length l = heads-length l in
    record {
      some = omega (arith, f.some);
      few = omega (arith, f.few);
      chained = f.chained;
      unique = unique-from l w.sounds f.apart;
      holds = omega (arith, f.holds, all-length l w.sounds);
      nodes = w.sounds;
    }

-- every accepted list keeps the rules
pub accepted-text-rules : (room : ℕ) (s : List ℕ) (l : List Element) → read_text room s ≡ accepted l → Allowed room l
accepted-text-rules room s l e = whole-rules room l (text-elements room s l e)

pub accepted-rules : AcceptedKeepsRules
accepted-rules room s l e = accepted-text-rules room s l (read_short room s l e).text

-- READ IMPLIES VALID: the list, and the room m, as an accepted reading leaves them
pub accepted-valid : AcceptedIsValid
accepted-valid m s l e =
    let w : WholeElements (room_length m) l = text-elements (room_length m) s l (read_short (room_length m) s l e).text in
    made m l w.sounds w.fits
