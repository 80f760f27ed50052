-- The labels of a text, and where each one stands.
use Rattle.std.specs.Prelude.{ℕ, ◌+◌, Bool, false, nat_lt, List, [], ◌∷◌, ◌++◌, map, if◌then◌else◌, Option, None, Some, bytes_eq}
use Rattle.script.specs.Lines.{lines_of}
use Rattle.qpu_asm.specs.{declared.label.Spot.Spot, Lines.Line, Lines.Label, Lines.Coded, Lines.read_line, Items.Spots}

-- an instruction's line takes one index
abbrev pub size_of : Line → ℕ
size_of (Coded opcode items) = 1
size_of other = 0

-- a label, and where it stands
pub record LabelSpot : Type 0 where
  pub name : List ℕ
  pub spot : Spot

-- what a line with this number, and this index of the next instruction, defines
abbrev pub label_on : ℕ → ℕ → Line → List LabelSpot
label_on line index (Label name) = record { name = name; spot = record { line = line; index = index } } ∷ []
label_on line index other = []

unfoldable pub labels_from : ℕ → ℕ → List Line → List LabelSpot
labels_from line index [] = []
labels_from line index (first ∷ lines) = label_on line index first ++ labels_from (line + 1) (index + size_of first) lines

-- where the first label of that name stands
unfoldable pub spot_among : List LabelSpot → Spots
spot_among [] name = None
spot_among (label ∷ labels) name = if bytes_eq label.name name then Some label.spot else spot_among labels name

abbrev pub or_spot : Option Spot → Option Spot → Option Spot
or_spot None other = other
or_spot (Some spot) other = Some spot

-- the spots with what a line defines, where its label is new
abbrev pub spots_with : Spots → ℕ → ℕ → Line → Spots
spots_with spots line index (Label name) = λ other. or_spot (spots other) (if bytes_eq name other then Some (record { line = line; index = index }) else None)
spots_with spots line index other = spots

-- the label was defined before this line
abbrev pub is_before : ℕ → Option Spot → Bool
is_before line None = false
is_before line (Some spot) = nat_lt spot.line line

unfoldable pub read_lines : List ℕ → List Line
read_lines text = map read_line (lines_of text)

-- lines count from 1, instructions from 0
unfoldable pub labels_of : List ℕ → List LabelSpot
labels_of text = labels_from 1 0 (read_lines text)

abbrev pub spots_of : List ℕ → Spots
spots_of text = spot_among (labels_of text)
