-- What a text assembles to: its words where it has no fault, else the least of all its faults.
use Rattle.std.specs.Prelude.{ℕ, ◌+◌, ◌==◌, ◌≡◌, Bool, ◌&&◌, ◌||◌, nat_lt, nat_le, List, [], ◌∷◌, ◌++◌, if◌then◌else◌, Option, None, Some, Result, Ok, Err}
use Rattle.field_words.specs.declared.stop.Stop.{Stop}
use Rattle.field_words.specs.declared.stop.Stop.TheVariants as stop
use Rattle.qpu_isa.specs.Fields.{fields_joined}
use Rattle.script.specs.Lines.{before, behind}
use Rattle.qpu_asm.specs.{declared.fault.AsmFault.AsmFault, declared.fault.Mistake.Mistake, Table.Row, Table.Kind, Table.widths_of, Lines.Line, Lines.Coded, Faults.text_faults}
use Rattle.qpu_asm.specs.{Items.Spots, Items.read_value, Items.is_row, Items.kind_named, Labels.size_of, Labels.read_lines, Labels.spots_of}

abbrev pub value_or : ℕ → Result ℕ Mistake → ℕ
value_or fallback (Ok value) = value
value_or fallback (Err mistake) = fallback

-- the rows' values: that of its item where the next item names the row, else the default
unfoldable pub row_values : Spots → ℕ → List Row → List (List ℕ) → List ℕ
row_values spots index [] items = []
row_values spots index (row ∷ rows) [] = row.fallback ∷ row_values spots index rows []
row_values spots index (row ∷ rows) (item ∷ items) =
    if is_row (before 61 item) row
    then value_or row.fallback (read_value spots index (before 61 item) (behind 61 item) row) ∷ row_values spots index rows items
    else row.fallback ∷ row_values spots index rows (item ∷ items)

unfoldable pub kind_word : Spots → ℕ → List (List ℕ) → Kind → ℕ
kind_word spots index items kind = fields_joined kind.above (widths_of kind.rows) (row_values spots index kind.rows items)

abbrev pub code_word : Spots → ℕ → List (List ℕ) → Option Kind → ℕ
code_word spots index items None = 0
code_word spots index items (Some kind) = kind_word spots index items kind

-- the word of an instruction's line
unfoldable pub words_on : Spots → ℕ → Line → List ℕ
words_on spots index (Coded opcode items) = code_word spots index items (kind_named opcode) ∷ []
words_on spots index other = []

unfoldable pub words_from : Spots → ℕ → List Line → List ℕ
words_from spots index [] = []
words_from spots index (first ∷ lines) = words_on spots index first ++ words_from spots (index + size_of first) lines

-- the words of a text without faults
unfoldable pub text_words : List ℕ → List ℕ
text_words text = words_from (spots_of text) 0 (read_lines text)

-- by line, then by kind
abbrev pub is_up_to : AsmFault → AsmFault → Bool
is_up_to one other = nat_lt one.line other.line || (one.line == other.line && nat_le one.kind other.kind)

-- the least of a fault and others
unfoldable pub least_fault : AsmFault → List AsmFault → AsmFault
least_fault fault [] = fault
least_fault fault (other ∷ others) = least_fault (if is_up_to other fault then other else fault) others

abbrev pub words_or_least : List ℕ → List AsmFault → Result (List ℕ) AsmFault
words_or_least words [] = Ok words
words_or_least words (fault ∷ faults) = Err (least_fault fault faults)

-- A text's words where it has no fault, else the least of all its faults.
unfoldable pub Assembled : List ℕ → Result (List ℕ) AsmFault
Assembled text = words_or_least (text_words text) (text_faults text)

abbrev pub IsFaultOf : Result (List ℕ) AsmFault → Stop AsmFault → Type 0
IsFaultOf assembled (stop.Fault fault) = assembled ≡ Err fault
IsFaultOf assembled stop.NoMemory = Unit {0}
