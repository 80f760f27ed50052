-- Where on its line a fault of a text stands, and what was expected there.
use Rattle.std.specs.Prelude.{ℕ, ◌+◌, ◌-◌, ◌==◌, Bool, false, List, [], ◌∷◌, ◌++◌, codes, length, slice_index_or, if◌then◌else◌, Option, None, Some, unwrap_or}
use Rattle.std.specs.{Fmt.decimal, List.slice_split, List.flat_map, Str.bytes_eq}
use Rattle.script.specs.Lines.{lines_of, before}
use Rattle.qpu_asm.specs.declared.place.Opcode.TheVariants.{Nop, Alu, Li, Br}
use Rattle.qpu_asm.specs.declared.place.Wanted.TheVariants.{Tab, Return, FirstWord, LabelLine, NewLabel, Equals, Item, Order, Number, Operation, Target}
use Rattle.qpu_asm.specs.{declared.fault.AsmFault.AsmFault, declared.fault.Mistake.Mistake, declared.place.FaultPlace.FaultPlace}
use Rattle.qpu_asm.specs.{declared.place.Opcode.Opcode, declared.place.Wanted.Wanted, Labels.spots_of, Table.Named, Table.Row, Table.Kind}
use Rattle.qpu_asm.specs.{Table.alu_rows, Table.load_imm_rows, Table.branch_rows, Lines.is_full, Lines.Line, Lines.Blank, Lines.Label}
use Rattle.qpu_asm.specs.{Lines.BadLabel, Lines.Coded, Lines.read_line, Items.Spots, Items.mistake_number, Items.is_row, Items.has_row}
use Rattle.qpu_asm.specs.{Items.has_value, Items.kind_named, Faults.rows_after, Faults.item_mistakes}

-- a word of a line, and the column of its first byte; columns count bytes from 1
pub record Word : Type 0 where
  pub column : ℕ
  pub text : List ℕ

abbrev pub word_at : ℕ → List ℕ → Word
word_at column text = record { column = column; text = text }

-- the words among the parts between spaces, where the first part begins at a column
unfoldable pub words_from : ℕ → List (List ℕ) → List Word
words_from column [] = []
words_from column (part ∷ parts) =
    if is_full part then word_at column part ∷ words_from (column + length part + 1) parts else words_from (column + 1) parts

-- the words of a line that begins at a column
unfoldable pub placed_words : ℕ → List ℕ → List Word
placed_words column line = words_from column (slice_split (λ byte. byte == 32) line)

-- the line of this number, from 1 on
abbrev pub line_at : List ℕ → ℕ → List ℕ
line_at text number = slice_index_or (lines_of text) (number - 1) []

abbrev pub opcode_of : List ℕ → Opcode
opcode_of word =
    if bytes_eq (codes "nop") word then Nop
    else (if bytes_eq (codes "li") word then Li else (if bytes_eq (codes "br") word then Br else Alu))

-- what a row's own item takes: a number, or also the name of an operation
abbrev pub wanted_number : List Named → ℕ → Wanted
wanted_number [] below = Number (below - 1)
wanted_number (named ∷ others) below = Operation (below - 1)

-- what the value of the item of that name is to be, which `to` has for a label
unfoldable pub wanted_value : List ℕ → List Row → Wanted
wanted_value name [] = Equals
wanted_value name (row ∷ rows) =
    if is_row name row then (if bytes_eq row.name name then wanted_number row.named row.below else Target) else wanted_value name rows

-- what was expected in place of an item, with all rows of its instruction and those that may still come
unfoldable pub wanted_item : Opcode → List Row → List Row → List ℕ → Wanted
wanted_item opcode all rows item =
    if has_value item then (if has_row (before 61 item) rows then wanted_value (before 61 item) rows
    else (if has_row (before 61 item) all then Order opcode else Item opcode)) else Equals

abbrev pub is_of : ℕ → List Mistake → Bool
is_of kind [] = false
is_of kind (mistake ∷ mistakes) = mistake_number mistake == kind

-- The first item with a mistake of this kind. (Which mistakes an item has doesn't depend on the instruction's index.)
unfoldable pub item_place : Spots → ℕ → Opcode → List Row → List Row → List Word → Option FaultPlace
item_place spots kind opcode all rows [] = None
item_place spots kind opcode all rows (item ∷ items) =
    if is_of kind (item_mistakes spots 0 all rows item.text) then Some (record { column = item.column; wanted = wanted_item opcode all rows item.text })
    else item_place spots kind opcode all (rows_after item.text rows) items

-- an instruction's first word that is no kind of instruction, or the first item with such a mistake
abbrev pub code_place : Spots → ℕ → ℕ → List ℕ → List Word → Option Kind → FaultPlace
code_place spots kind column opcode items None = record { column = column; wanted = FirstWord }
code_place spots kind column opcode items (Some of) =
    unwrap_or (item_place spots kind (opcode_of opcode) of.rows of.rows items) (record { column = column; wanted = FirstWord })

-- by what the line is; its first word begins at a column
abbrev pub line_place : Spots → ℕ → ℕ → List Word → Line → FaultPlace
line_place spots kind column items Blank = record { column = column; wanted = FirstWord }
line_place spots kind column items (Label name) = record { column = column; wanted = NewLabel }
line_place spots kind column items BadLabel = record { column = column; wanted = LabelLine }
line_place spots kind column items (Coded opcode others) = code_place spots kind column opcode items (kind_named opcode)

abbrev pub words_place : Spots → ℕ → Line → List Word → FaultPlace
words_place spots kind line [] = record { column = 1; wanted = FirstWord }
words_place spots kind line (first ∷ items) = line_place spots kind first.column items line

-- the first tab or carriage return of a line that begins at a column
unfoldable pub stray_from : ℕ → List ℕ → Option FaultPlace
stray_from column [] = None
stray_from column (byte ∷ bytes) =
    if byte == 9 then Some (record { column = column; wanted = Tab })
    else (if byte == 13 then Some (record { column = column; wanted = Return }) else stray_from (column + 1) bytes)

-- The place of a text's fault: the first tab or carriage return of its line, or else the first byte of the word that it is about, and
-- what was expected there.
unfoldable pub fault_place : List ℕ → AsmFault → FaultPlace
fault_place text fault =
    unwrap_or (stray_from 1 (line_at text fault.line))
    (words_place (spots_of text) fault.kind (read_line (line_at text fault.line)) (placed_words 1 (line_at text fault.line)))

-- what was expected, in words
abbrev pub row_text : Row → List ℕ
row_text row = codes " " ++ row.name

unfoldable pub items_text : Opcode → List ℕ
items_text Nop = []
items_text Alu = flat_map row_text alu_rows
items_text Li = flat_map row_text load_imm_rows
items_text Br = flat_map row_text branch_rows ++ codes ", or to for a label"

unfoldable pub opcode_text : Opcode → List ℕ
opcode_text Nop = codes "nop"
opcode_text Alu = codes "alu"
opcode_text Li = codes "li"
opcode_text Br = codes "br"

unfoldable pub wanted_text : Wanted → List ℕ
wanted_text FirstWord = codes "an instruction begins with nop, alu, li or br, and a label ends with a colon"
wanted_text LabelLine = codes "a label is a letter and then letters, digits or _, and stands alone with its colon"
wanted_text NewLabel = codes "an earlier line has this label"
wanted_text Equals = codes "an item is a name, = and a value, without blanks"
wanted_text (Item opcode) = codes "there is no such item of " ++ (opcode_text opcode ++ (codes ", whose items are" ++ items_text opcode))
wanted_text (Order opcode) = codes "the item is repeated or out of order; the order is" ++ items_text opcode
wanted_text (Number most) = codes "the value is a decimal number from 0 to " ++ decimal most
wanted_text (Operation most) = codes "the value is the name of an operation, or a decimal number from 0 to " ++ decimal most
wanted_text Tab = codes "a tab stands here: blanks part words"
wanted_text Return = codes "a carriage return stands here: a line ends with a line feed alone"
wanted_text Target = codes "the value is the name of a label that the text has"
