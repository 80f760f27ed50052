-- The disassembler's text: one line a word.
use Rattle.std.specs.Prelude.{ℕ, ◌≡◌, ◌<◌, ◌^◌, ◌==◌, List, [], ◌∷◌, ◌++◌, decimal, All, if◌then◌else◌, Option, None, Some, Ok, flat_map}
use Rattle.qpu_isa.specs.{Word.sig_of, Inst.alu_of, Inst.load_imm_of, Inst.branch_of, Fields.values_of, Fields.alu_values, Fields.load_imm_values, Fields.branch_values}
use Rattle.qpu_asm.specs.{Table.Named, Table.Row, Table.Kind, Table.widths_of, Table.nop_word, Table.nop_kind, Table.alu_kind, Table.load_imm_kind, Table.branch_kind, Assembly.Assembled}

unfoldable pub name_of : List Named → ℕ → Option (List ℕ)
name_of [] value = None
name_of (named ∷ others) value = if named.value == value then Some named.name else name_of others value

abbrev pub or_decimal : ℕ → Option (List ℕ) → List ℕ
or_decimal value None = decimal value
or_decimal value (Some name) = name

-- a value that has a name is written by it, else as a number
unfoldable pub value_text : Row → ℕ → List ℕ
value_text row value = or_decimal value (name_of row.named value)

unfoldable pub item_text : Row → ℕ → List ℕ
item_text row value = row.name ++ 61 ∷ value_text row value

-- the items that differ from their defaults
unfoldable pub item_texts : List Row → List ℕ → List (List ℕ)
item_texts [] values = []
item_texts (row ∷ rows) [] = []
item_texts (row ∷ rows) (value ∷ values) =
    if value == row.fallback then item_texts rows values else item_text row value ∷ item_texts rows values

unfoldable pub kind_of : ℕ → Kind
kind_of word =
    if word == nop_kind.above then nop_kind
    else (if sig_of word == 14 then load_imm_kind else (if sig_of word == 15 then branch_kind else alu_kind))

unfoldable pub spaced_words : List (List ℕ) → List ℕ
spaced_words [] = []
spaced_words (item ∷ items) = 32 ∷ (item ++ spaced_words items)

abbrev pub rows_text : List Row → ℕ → List ℕ
rows_text rows word = spaced_words (item_texts rows (values_of (widths_of rows) word))

-- the opcode, and each item after a space
unfoldable pub kind_text : ℕ → Kind → List ℕ
kind_text word kind = kind.opcode ++ rows_text kind.rows word

unfoldable pub word_text : ℕ → List ℕ
word_text word = kind_text word (kind_of word)

unfoldable pub line_text : ℕ → List ℕ
line_text word = word_text word ++ 10 ∷ []

unfoldable pub AsmText : List ℕ → List ℕ
AsmText words = flat_map line_text words

-- Assembling what was printed gives the same words.
abbrev pub PrintedReturns : Type 0
PrintedReturns =
    (words : List ℕ) → All (λ word. word < 2 ^ 64) words → Assembled (AsmText words) ≡ Ok words

-- What a row prints is the instruction's field of its place: the rows of a kind stand for the fields of its struct, in order. And
-- `nop` stands for the word of an ALU instruction without items.
pub record IsInOrder (word : ℕ) : Type 0 where
  pub alu : values_of (widths_of alu_kind.rows) word ≡ alu_values (alu_of word)
  pub load_imm : values_of (widths_of load_imm_kind.rows) word ≡ load_imm_values (load_imm_of word)
  pub branch : values_of (widths_of branch_kind.rows) word ≡ branch_values (branch_of word)
  pub blank : nop_kind.above ≡ nop_word

abbrev pub FieldsInOrder : Type 0
FieldsInOrder = (word : ℕ) → IsInOrder word
