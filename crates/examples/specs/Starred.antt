-- The starred examples of document 01 (Examples for both sides of a line): questions, what the definitions answer, and what 01 says, or, where it changes 01, document 02.
use Rattle.std.specs.Prelude.{true, false, List, [], ◌∷◌, map, ℕ, ℤ, pos, negsuc, Float}
use Prim.Native.String.{String}
use Rattle.decimal.specs.declared.Decimal.{Decimal}
use Rattle.decimal.specs.Decimal.{Token}
use Rattle.std.specs.Prelude.{Ok, Err}
use Rattle.decimal.specs.declared.NumberFault.TheVariants.{Malformed, OutOfBounds}
use Rattle.decimal.specs.Decimal.{zero}
use Rattle.decimal_read.specs.Number.{token_of}
use Rattle.decimal_value.specs.Value.{value_of}
use Rattle.process_list.specs.declared.Depth.TheVariants.{F32}
use Rattle.process_list.specs.declared.RangeStyle.TheVariants.{Clamp}
use Rattle.process_list.specs.declared.CdlStyle.TheVariants.{Fwd}
use Rattle.process_list.specs.declared.Kind.{Kind}
use Rattle.process_list.specs.declared.Kind.TheVariants.{Matrix, Lut1d, Range, Cdl}
use Rattle.process_list.specs.List.{Element, placed, all_numbers, list_of}
use Rattle.room.specs.Room.{Room, lent, coefficient_parts, power_parts}
use Rattle.clf.specs.Numbers.{fault_of, any_number}
use Rattle.running.specs.Running.{ran_number, ran_of, pixels_of}
use Rattle.xml.specs.Bytes.{bytes}

-- what is asked: what a token says; what a grey pixel of this value becomes, run through a list of these nodes
pub data Question : Type 0 where
  token : List ℕ → Question
  grey : List Element → Float → Question

-- a number as its coefficient and its power; a refusal number; running's number, 0 for accepted, and the slice afterwards
pub data Outcome : Type 0 where
  number : ℤ → ℤ → Outcome
  refusal : ℕ → Outcome
  slice : ℕ → List Float → Outcome

-- ---- what the definitions answer

-- a token that says no number has the refusal that the only number of an element would have
abbrev pub of_token : Token → Outcome
of_token (Ok d) = number d.coefficient d.power
of_token (Err Malformed) = refusal (fault_of 1 any_number 0 (Err Malformed))
of_token (Err OutOfBounds) = refusal (fault_of 1 any_number 0 (Err OutOfBounds))

-- three components a pixel
abbrev pub grey_pixel : Float → List Float
grey_pixel x = x ∷ x ∷ x ∷ []

-- the numbers of all nodes, without gaps in node order, in a room that has no more
abbrev pub room_holding : List Element → Room
room_holding es = lent (coefficient_parts (all_numbers es)) (power_parts (all_numbers es))

-- the nodes stand in a list, their numbers in the room
abbrev pub of_run : List Element → List Float → Outcome
of_run es xs =
    slice
    (ran_number (ran_of (list_of (placed es)) (room_holding es) xs))
    (pixels_of (list_of (placed es)) (room_holding es) xs)

abbrev pub outcome : Question → Outcome
outcome (token t) = of_token (token_of t)
outcome (grey es x) = of_run es (grey_pixel x)

-- ---- numbers and nodes of the questions

abbrev pub of_number : Token → Decimal
of_number (Ok d) = d
of_number (Err Malformed) = zero
of_number (Err OutOfBounds) = zero

-- the number that a text says, and its f64
abbrev pub decimal : String → Decimal
decimal t = of_number (token_of (bytes t))

abbrev pub f64 : String → Float
f64 t = value_of (decimal t)

-- a node 'at 32f'
abbrev pub at32f : Kind → List String → Element
at32f kind numbers = record { kind = kind; input = F32; output = F32; id = []; numbers = map decimal numbers }

-- 'LUT1D 0, 0.25, 1 at 32f'
abbrev pub lut1d : Element
lut1d = at32f (Lut1d 3 1) ("0" ∷ "0.25" ∷ "1" ∷ [])

-- 'Range above', the one of the written form: minIn, maxIn, minOut, maxOut
abbrev pub range_above : Element
range_above = at32f (Range Clamp) ("0" ∷ "1" ∷ "0" ∷ "5e-1" ∷ [])

-- 'CDL slope 2, offset -0.25'; Power and Saturation are absent and read as 1
abbrev pub cdl : Element
cdl = at32f (Cdl Fwd) ("2" ∷ "2" ∷ "2" ∷ "-0.25" ∷ "-0.25" ∷ "-0.25" ∷ "1" ∷ "1" ∷ "1" ∷ "1" ∷ [])

-- 'Gain 2', row by row
abbrev pub gain : Element
gain = at32f (Matrix false) ("2" ∷ "0" ∷ "0" ∷ "0" ∷ "2" ∷ "0" ∷ "0" ∷ "0" ∷ "2" ∷ [])

-- 'Clamp 0..1'
abbrev pub clamp : Element
clamp = at32f (Range Clamp) ("0" ∷ "1" ∷ "0" ∷ "1" ∷ [])

-- ---- the table

unfoldable pub questions : List Question
questions =
    token (bytes "0.50")
    ∷ token (bytes "-0")
    ∷ token (bytes "1e22")
    ∷ token (bytes "1e23")
    ∷ token (bytes "0.1e23")
    ∷ token (bytes "1000000000000000")
    ∷ token (bytes "1234567890123456")
    ∷ grey (lut1d ∷ []) (f64 "0.5")
    ∷ grey (lut1d ∷ []) (f64 "0.75")
    ∷ grey (lut1d ∷ []) (f64 "2")
    ∷ grey (range_above ∷ []) (f64 "3")
    ∷ grey (cdl ∷ []) (f64 "0.5")
    ∷ grey (gain ∷ clamp ∷ []) (f64 "0.75")
    ∷ grey (clamp ∷ gain ∷ []) (f64 "0.75")
    ∷ []

-- what 01 says, and of `1e23` and `1234567890123456`, which 'become 25', 02 (W-204)
unfoldable pub answers : List Outcome
answers =
    number (pos 5) (negsuc 0)
    ∷ number (pos 0) (pos 0)
    ∷ number (pos 1) (pos 22)
    ∷ refusal 25
    ∷ number (pos 1) (pos 22)
    ∷ number (pos 1) (pos 15)
    ∷ refusal 25
    ∷ slice 0 (grey_pixel (f64 "0.25"))
    ∷ slice 0 (grey_pixel (f64 "0.625"))
    ∷ slice 0 (grey_pixel (f64 "1"))
    ∷ slice 0 (grey_pixel (f64 "0.5"))
    ∷ slice 0 (grey_pixel (f64 "0.75"))
    ∷ slice 0 (grey_pixel (f64 "1"))
    ∷ slice 0 (grey_pixel (f64 "1.5"))
    ∷ []
