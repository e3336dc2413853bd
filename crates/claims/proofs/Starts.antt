-- Examples of what the bytes of an element alone are: the refusal number and place that each gives, 0 for none. Assumes nothing.
use Rattle.process_list.specs.List.{Element}
use mathlib.Core.Path.{◌≡◌, refl}
use mathlib.Core.List.{List, [], ◌∷◌, map}
use Prim.Native.Nat.{ℕ}
use lib.ListN.{length}
use Rattle.grammar.specs.Parse.{Out, done, fault, cut, loop_p}
use Rattle.xml.specs.Bytes.{bytes, same, is_space, is_letter, is_digit, is_name_byte, is_quote}
use Rattle.xml.specs.Xml.{spaces, name, text, attribute, is_named, start_tag}
use Rattle.clf.specs.Nodes.{depth_of, matrix, range, lut1d, lut3d, asc_cdl}
use Rattle.clf.specs.Reading.{place_in}
use Rattle.look.specs.Replacing.{start, element}

abbrev pub answer : List ℕ → Out Element → ℕ × ℕ
answer e (done n r) = (0, place_in e r)
answer e (fault k r) = (k, place_in e r)
answer e cut = (1, length e)

abbrev pub alone : List ℕ → ℕ × ℕ
alone e = answer e (element.run e)

pub starts : map alone (
    bytes "" ∷ bytes "<" ∷ bytes "<M" ∷ bytes "<Matrix" ∷ bytes "<MatrixX" ∷ bytes "<Foo" ∷ bytes " <Matrix" ∷ bytes "<Log" ∷ bytes "<Log/>x"
    ∷ bytes "<Matrix$" ∷ bytes "<LUT" ∷ bytes "<LUT2" ∷ bytes "<LUT3D " ∷ bytes "<LUT3D/>" ∷ bytes "<Exponent " ∷ bytes "<Mat$" ∷ bytes "<ASC_CDL inBitDepth='8i' outBitDepth='8i'/> " ∷ bytes "<Range/> " ∷ [])
    ≡ (1, 0) ∷ (1, 1) ∷ (1, 2) ∷ (1, 7) ∷ (20, 0) ∷ (20, 0) ∷ (20, 0) ∷ (1, 4) ∷ (7, 0) ∷ (2, 7) ∷ (1, 4) ∷ (20, 0) ∷ (1, 7) ∷ (5, 6) ∷ (7, 0) ∷ (20, 0) ∷ (0, 43) ∷ (5, 6) ∷ []
unfolding start element loop_p same is_space is_letter is_digit is_name_byte is_quote spaces name text attribute is_named start_tag matrix range asc_cdl lut1d lut3d depth_of
starts = refl
