-- What the assembler has read after each item and each line: the word so far, or the least fault so far. No part of what the
-- crate claims.
use Rattle.std.specs.Prelude.{ℕ, ◌+◌, ◌*◌, ◌^◌, ◌≤◌, ◌≡◌, ◌==◌, Bool, true, not, ◌&&◌, ◌||◌, nat_lt, nat_le, List, [], ◌∷◌, ◌++◌, length, if◌then◌else◌, Option, Result, None, Some, Ok, Err}
use Rattle.std.specs.List.{list_all}
use Rattle.qpu_isa.specs.Fields.{fields_joined, width_of}
use Rattle.script.specs.Lines.{before, behind}
use Rattle.qpu_asm.specs.declared.fault.Mistake.TheVariants.{UnknownWord, BadOperand, LabelTwice}
use Rattle.qpu_asm.specs.Items.{Spots, mistake_number, read_value, is_row, has_row, has_value, kind_named}
use Rattle.qpu_asm.specs.{declared.fault.AsmFault.AsmFault, declared.fault.Mistake.Mistake, Labels.is_before, Faults.fault_on}
use Rattle.qpu_asm.specs.{Table.Row, Table.Kind, Table.fallbacks_of, Table.widths_of, Printed.item_text, Lines.Line, Lines.Blank, Lines.Label, Lines.BadLabel, Lines.Coded}

-- the one with the lesser number, where there is another
abbrev pub least_of : Mistake → Option Mistake → Mistake
least_of mistake None = mistake
least_of mistake (Some other) = if nat_le (mistake_number mistake) (mistake_number other) then mistake else other

-- An instruction whose items have been read in part: its fields so far, the rows that may still come, and the least fault so
-- far, with which the word isn't used any more.
pub record Partial : Type 0 where
  pub word : ℕ
  pub rows : List Row
  pub fault : Option Mistake

-- without such a byte
unfoldable pub lacks : ℕ → List ℕ → Bool
lacks mark bytes = list_all (λ byte. not (byte == mark)) bytes

-- the row's default and all its values fit its width, and a label's too
unfoldable pub is_ready : Row → Bool
is_ready row =
    (nat_le 1 row.width && nat_le row.width 32)
    && ((nat_lt row.fallback (2 ^ row.width) && nat_le row.below (2 ^ row.width))
    && (list_all (λ named. nat_lt named.value (2 ^ row.width)) row.named && (not row.takes_label || row.width == 32)))

unfoldable pub are_ready : List Row → Bool
are_ready rows = list_all is_ready rows

-- what a row writes of a value: nothing where it is the default, else its item behind a space
abbrev pub field_text : Row → ℕ → List ℕ
field_text row value = if value == row.fallback then [] else 32 ∷ item_text row value

-- the word can take the rows' fields
pub record IsOpen (word : ℕ) (rows : List Row) : Type 0 where
  pub room : (word + 1) * 2 ^ width_of (widths_of rows) ≤ 2 ^ 64
  pub ready : are_ready rows ≡ true

abbrev pub with_fault : Mistake → Partial → Partial
with_fault mistake partial = record { word = partial.word; rows = partial.rows; fault = Some (least_of mistake partial.fault) }

-- the value, or its fault and the default
abbrev pub with_value : Row → Partial → Result ℕ Mistake → Partial
with_value row partial (Ok value) = record { word = partial.word * 2 ^ row.width + value; rows = partial.rows; fault = partial.fault }
with_value row partial (Err mistake) =
    with_fault mistake (record { word = partial.word * 2 ^ row.width + row.fallback; rows = partial.rows; fault = partial.fault })

-- the rows up to the one of that name have their defaults, and this one is read
unfoldable pub skip_to : List ℕ → (Row → Result ℕ Mistake) → Option Mistake → ℕ → List Row → Partial
skip_to name read fault word [] = record { word = word; rows = []; fault = fault }
skip_to name read fault word (row ∷ rows) =
    if is_row name row then with_value row (record { word = word; rows = rows; fault = fault }) (read row)
    else skip_to name read fault (word * 2 ^ row.width + row.fallback) rows

-- What is named again or out of order isn't among the rows that may still come.
unfoldable pub read_named : Spots → ℕ → List Row → Partial → List ℕ → List ℕ → Partial
read_named spots index all partial name text =
    if has_row name partial.rows then skip_to name (read_value spots index name text) partial.fault partial.word partial.rows
    else with_fault (if has_row name all then BadOperand else UnknownWord) partial

-- an item is cut at its first `=`
unfoldable pub read_item : Spots → ℕ → List Row → Partial → List ℕ → Partial
read_item spots index all partial item =
    if has_value item then read_named spots index all partial (before 61 item) (behind 61 item)
    else with_fault UnknownWord partial

unfoldable pub read_items : Spots → ℕ → List Row → Partial → List (List ℕ) → Partial
read_items spots index all partial [] = partial
read_items spots index all partial (item ∷ items) = read_items spots index all (read_item spots index all partial item) items

abbrev pub word_or_fault : ℕ → Option Mistake → Result ℕ Mistake
word_or_fault word None = Ok word
word_or_fault word (Some mistake) = Err mistake

-- the rows that are left have their defaults
unfoldable pub closed_word : Partial → Result ℕ Mistake
closed_word partial = word_or_fault (fields_joined partial.word (widths_of partial.rows) (fallbacks_of partial.rows)) partial.fault

unfoldable pub kind_code : Spots → ℕ → List (List ℕ) → Kind → Result ℕ Mistake
kind_code spots index items kind =
    closed_word (read_items spots index kind.rows (record { word = kind.above; rows = kind.rows; fault = None }) items)

abbrev pub option_code : Spots → ℕ → List (List ℕ) → Option Kind → Result ℕ Mistake
option_code spots index items None = Err UnknownWord
option_code spots index items (Some kind) = kind_code spots index items kind

-- an instruction by its first word and its items
unfoldable pub code_of : Spots → ℕ → List ℕ → List (List ℕ) → Result ℕ Mistake
code_of spots index opcode items = option_code spots index items (kind_named opcode)

abbrev pub with_word : ℕ → List ℕ → Result ℕ Mistake → Result (List ℕ) AsmFault
with_word line words (Ok word) = Ok (words ++ word ∷ [])
with_word line words (Err mistake) = Err (fault_on line mistake)

-- the words with that of a line, or the least of the line's faults
unfoldable pub line_words : Spots → ℕ → List ℕ → Line → Result (List ℕ) AsmFault
line_words spots line words Blank = Ok words
line_words spots line words (Label name) = if is_before line (spots name) then Err (fault_on line LabelTwice) else Ok words
line_words spots line words BadLabel = Err (fault_on line UnknownWord)
line_words spots line words (Coded opcode items) = with_word line words (code_of spots (length words) opcode items)

abbrev pub if_words : Result (List ℕ) AsmFault → (List ℕ → Result (List ℕ) AsmFault) → Result (List ℕ) AsmFault
if_words (Ok words) later = later words
if_words (Err fault) later = Err fault

-- the words with those of lines, or the fault of the first line that has one
unfoldable pub lines_words : Spots → ℕ → List Line → List ℕ → Result (List ℕ) AsmFault
lines_words spots line [] words = Ok words
lines_words spots line (first ∷ lines) words =
    if_words (line_words spots line words first) (λ more. lines_words spots (line + 1) lines more)
