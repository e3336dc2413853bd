-- Pixels through a LUT3D (document 02, W-201): questions, what the definitions answer, and what follows from the paragraph. Each small table tells apart two ways in which it could be read.
use Rattle.std.specs.Prelude.{List, [], ◌∷◌, ◌++◌, ℕ, Float}
use Prim.Native.String.{String}
use Rattle.process_list.specs.declared.Interpolation.{Interpolation}
use Rattle.process_list.specs.declared.Interpolation.TheVariants.{Trilinear, Tetrahedral}
use Rattle.process_list.specs.declared.Kind.TheVariants.{Lut3d}
use Rattle.clf.specs.Reading.{read_alone, nodes_in}
use Rattle.xml.specs.Bytes.{bytes}
use Rattle.examples.specs.Starred.{Outcome, slice, of_run, grey_pixel, f64, at32f}

-- what is asked: what a pixel becomes in a LUT3D of this method and so many entries on each axis, with these numbers; what it becomes in the nodes of a file
pub data Question : Type 0 where
  cube : Interpolation → ℕ → List String → List Float → Question
  file : List ℕ → List Float → Question

abbrev pub outcome : Question → Outcome
outcome (cube interpolation points numbers x) = of_run (at32f (Lut3d points interpolation) numbers ∷ []) x
outcome (file s x) = of_run (nodes_in (read_alone s)) x

abbrev pub pixel : String → String → String → List Float
pixel r g b = f64 r ∷ f64 g ∷ f64 b ∷ []

-- ---- the tables

-- three equal numbers for each entry
abbrev pub grey : List String → List String
grey [] = []
grey (e ∷ es) = e ∷ e ∷ e ∷ grey es

-- 'blue fastest, red slowest': each number is the count of those before it
abbrev pub counted : List String
counted =
    "0" ∷ "1" ∷ "2" ∷ "3" ∷ "4" ∷ "5" ∷ "6" ∷ "7" ∷ "8" ∷ "9" ∷ "10" ∷ "11"
    ∷ "12" ∷ "13" ∷ "14" ∷ "15" ∷ "16" ∷ "17" ∷ "18" ∷ "19" ∷ "20" ∷ "21" ∷ "22" ∷ "23"
    ∷ []

-- three entries on each axis: each entry is the count of those before it
abbrev pub counted3 : List String
counted3 =
    grey
    ("0" ∷ "1" ∷ "2" ∷ "3" ∷ "4" ∷ "5" ∷ "6" ∷ "7" ∷ "8"
    ∷ "9" ∷ "10" ∷ "11" ∷ "12" ∷ "13" ∷ "14" ∷ "15" ∷ "16" ∷ "17"
    ∷ "18" ∷ "19" ∷ "20" ∷ "21" ∷ "22" ∷ "23" ∷ "24" ∷ "25" ∷ "26"
    ∷ [])

-- only the entry farthest from black is not 0: the methods differ, and tetrahedral gives the smallest f, which goes last 'by falling remainder'
abbrev pub last_only : List String
last_only = grey ("0" ∷ "0" ∷ "0" ∷ "0" ∷ "0" ∷ "0" ∷ "0" ∷ "1" ∷ [])

-- 'ties red, green, blue': over two axes with equal f both orders give the same sum but for its rounding. With these entries the other order gives another last digit, whichever two tie
abbrev pub tied : List String
tied = grey ("0.8" ∷ "1.4" ∷ "0.1" ∷ "0.8" ∷ "0.8" ∷ "0.1" ∷ "1.4" ∷ "1.4" ∷ [])

-- the same behind a larger f: green and blue tie, and green goes first
abbrev pub tied_behind : List String
tied_behind = grey ("1.1" ∷ "0.7" ∷ "1.1" ∷ "1.3" ∷ "1.2" ∷ "0.9" ∷ "1.1" ∷ "0.1" ∷ [])

-- 'along blue, then green, then red': with these entries another order gives another last digit
abbrev pub in_turn : List String
in_turn = grey ("0.5" ∷ "0.9" ∷ "0.2" ∷ "1.4" ∷ "0.6" ∷ "1.1" ∷ "1" ∷ "0.5" ∷ [])

-- 'A term whose f is 0 is left out with its corner': along red and then green the sum 0.1 + 0.5·(0.4 − 0.1) + 0.5·(0.1 − 0.4) is rounded to a value below 0.1 and held at 0.1; with the corner
-- of a third step along blue, whose entry is 0, it would stay below
abbrev pub held_at_tenth : List String
held_at_tenth = grey ("0.1" ∷ "0" ∷ "0" ∷ "0" ∷ "0.4" ∷ "0" ∷ "0.1" ∷ "0" ∷ [])

-- ---- a file with one LUT3D, the table `last_only`; `attribute` says its method, or nothing
abbrev pub file_with : String → List ℕ
file_with attribute =
    bytes "<?xml version=\"1.0\" encoding=\"UTF-8\"?><ProcessList id=\"a\" compCLFversion=\"3.0\"><LUT3D inBitDepth=\"32f\" outBitDepth=\"32f\""
    ++ bytes attribute
    ++ bytes "><Array dim=\"2 2 2 3\">0 0 0 0 0 0 0 0 0 0 0 0 0 0 0 0 0 0 0 0 0 1 1 1</Array></LUT3D></ProcessList>"

-- ---- the table

unfoldable pub questions : List Question
questions =
    cube Trilinear 2 counted (pixel "1" "0" "0")
    ∷ cube Tetrahedral 2 counted (pixel "0" "0" "1")
    ∷ cube Tetrahedral 2 counted (pixel "1" "1" "1")
    ∷ cube Trilinear 2 counted (pixel "-1" "2" "0.5")
    ∷ cube Tetrahedral 3 counted3 (pixel "0.75" "0.25" "0.5")
    ∷ cube Trilinear 2 last_only (pixel "0.5" "0.5" "0.5")
    ∷ cube Tetrahedral 2 last_only (pixel "0.5" "0.5" "0.5")
    ∷ cube Tetrahedral 2 last_only (pixel "0.25" "0.5" "0.5")
    ∷ cube Trilinear 2 in_turn (pixel "0.25" "0.75" "0.5")
    ∷ cube Tetrahedral 2 tied (pixel "0.5" "0.5" "0")
    ∷ cube Tetrahedral 2 tied (pixel "0.5" "0" "0.5")
    ∷ cube Tetrahedral 2 tied (pixel "0" "0.5" "0.5")
    ∷ cube Tetrahedral 2 tied_behind (pixel "0.75" "0.5" "0.5")
    ∷ cube Tetrahedral 2 held_at_tenth (pixel "0.5" "0.5" "0")
    ∷ file (file_with "") (pixel "0.5" "0.5" "0.25")
    ∷ file (file_with " interpolation=\"tetrahedral\"") (pixel "0.5" "0.5" "0.25")
    ∷ []

unfoldable pub answers : List Outcome
answers =
    slice 0 (pixel "12" "13" "14")
    ∷ slice 0 (pixel "3" "4" "5")
    ∷ slice 0 (pixel "21" "22" "23")
    ∷ slice 0 (pixel "7.5" "8.5" "9.5")
    ∷ slice 0 (grey_pixel (f64 "16"))
    ∷ slice 0 (grey_pixel (f64 "0.125"))
    ∷ slice 0 (grey_pixel (f64 "0.5"))
    ∷ slice 0 (grey_pixel (f64 "0.25"))
    ∷ slice 0 (grey_pixel (f64 "0.775"))
    ∷ slice 0 (grey_pixel (f64 "1.1"))
    ∷ slice 0 (grey_pixel (f64 "0.45"))
    ∷ slice 0 (grey_pixel (f64 "0.8"))
    ∷ slice 0 (grey_pixel (f64 "0.625"))
    ∷ slice 0 (grey_pixel (f64 "0.1"))
    ∷ slice 0 (grey_pixel (f64 "0.0625"))
    ∷ slice 0 (grey_pixel (f64 "0.25"))
    ∷ []
