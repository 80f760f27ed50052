-- All faults of a text: each line's and each item's by its own sentence, whatever other faults stand before it.
use Rattle.std.specs.Prelude.{ℕ, ◌≡◌, ◌+◌, true, ◌&&◌, List, [], ◌∷◌, ◌++◌, map, if◌then◌else◌, Option, None, Some, Result, Ok, Err}
use Rattle.field_words.specs.{Questions.Question, Questions.Ask, Least.NotAfter, Least.IsLeast, declared.stop.Stop.Stop, declared.stop.Stop.TheVariants.Fault, declared.stop.Stop.TheVariants.NoMemory}
use Rattle.script.specs.Lines.{before, behind}
use Rattle.qpu_asm.specs.declared.fault.Mistake.TheVariants.{UnknownWord, BadOperand, LabelTwice}
use Rattle.qpu_asm.specs.Items.{Spots, mistake_number, read_value, is_row, has_row, has_value, kind_named}
use Rattle.qpu_asm.specs.{declared.fault.AsmFault.AsmFault, declared.fault.Mistake.Mistake, Table.Row, Table.Kind, Lines.Line, Lines.Blank}
use Rattle.qpu_asm.specs.{Lines.Label, Lines.BadLabel, Lines.Coded, Labels.size_of, Labels.is_before, Labels.read_lines, Labels.spots_of}

-- the rows behind the one of that name
unfoldable pub rows_behind : List ℕ → List Row → List Row
rows_behind name [] = []
rows_behind name (row ∷ rows) = if is_row name row then rows else rows_behind name rows

-- The rows that may still come after an item, by its name alone: those behind the row that it names, whatever its value is, and
-- all where it names none of them.
unfoldable pub rows_after : List ℕ → List Row → List Row
rows_after item rows = if has_value item && has_row (before 61 item) rows then rows_behind (before 61 item) rows else rows

abbrev pub mistakes_in : Result ℕ Mistake → List Mistake
mistakes_in (Ok value) = []
mistakes_in (Err mistake) = mistake ∷ []

-- that of the value of the row of that name
unfoldable pub value_mistakes : List ℕ → (Row → Result ℕ Mistake) → List Row → List Mistake
value_mistakes name read [] = []
value_mistakes name read (row ∷ rows) = if is_row name row then mistakes_in (read row) else value_mistakes name read rows

-- What is named again or out of order isn't among the rows that may still come.
unfoldable pub named_mistakes : Spots → ℕ → List Row → List Row → List ℕ → List ℕ → List Mistake
named_mistakes spots index all rows name text =
    if has_row name rows then value_mistakes name (read_value spots index name text) rows
    else (if has_row name all then BadOperand else UnknownWord) ∷ []

-- an item's mistake, where it has one, with all rows of its instruction and those that may still come
unfoldable pub item_mistakes : Spots → ℕ → List Row → List Row → List ℕ → List Mistake
item_mistakes spots index all rows item =
    if has_value item then named_mistakes spots index all rows (before 61 item) (behind 61 item) else UnknownWord ∷ []

unfoldable pub items_mistakes : Spots → ℕ → List Row → List Row → List (List ℕ) → List Mistake
items_mistakes spots index all rows [] = []
items_mistakes spots index all rows (item ∷ items) =
    item_mistakes spots index all rows item ++ items_mistakes spots index all (rows_after item rows) items

abbrev pub kind_mistakes : Spots → ℕ → List (List ℕ) → Option Kind → List Mistake
kind_mistakes spots index items None = UnknownWord ∷ []
kind_mistakes spots index items (Some kind) = items_mistakes spots index kind.rows kind.rows items

-- the mistakes of the line of that number, and of that index where it is an instruction
unfoldable pub line_mistakes : Spots → ℕ → ℕ → Line → List Mistake
line_mistakes spots line index Blank = []
line_mistakes spots line index (Label name) = if is_before line (spots name) then LabelTwice ∷ [] else []
line_mistakes spots line index BadLabel = UnknownWord ∷ []
line_mistakes spots line index (Coded opcode items) = kind_mistakes spots index items (kind_named opcode)

abbrev pub fault_on : ℕ → Mistake → AsmFault
fault_on line mistake = record { line = line; kind = mistake_number mistake }

unfoldable pub lines_faults : Spots → ℕ → ℕ → List Line → List AsmFault
lines_faults spots line index [] = []
lines_faults spots line index (first ∷ lines) =
    map (fault_on line) (line_mistakes spots line index first) ++ lines_faults spots (line + 1) (index + size_of first) lines

-- lines count from 1, instructions from 0
unfoldable pub text_faults : List ℕ → List AsmFault
text_faults text = lines_faults (spots_of text) 1 0 (read_lines text)

-- the order of faults: by line, then by kind
abbrev pub IsUpTo : AsmFault → AsmFault → Type 0
IsUpTo one other = NotAfter (one.line, one.kind) (other.line, other.kind)

-- the faults as rules that are all broken
abbrev pub all_broken : List AsmFault → List (Question AsmFault)
all_broken faults = map (Ask true) faults

-- Ok comes only where a text has no fault, and a fault that is answered is the least of all.
abbrev pub AnswersLeast : {X : Type 0} → List AsmFault → Result X (Stop AsmFault) → Type 0
AnswersLeast faults (Ok made) = faults ≡ []
AnswersLeast faults (Err (Fault fault)) = IsLeast IsUpTo (all_broken faults) fault
AnswersLeast faults (Err NoMemory) = Unit {0}
