-- The kinds of instructions and their items. The items stand for the fields of a word from the highest bit down, without
-- gaps, so that a row's width is all that tells its place.
use Rattle.std.specs.Prelude.{ℕ, ◌+◌, ◌^◌, Bool, true, false, List, [], ◌∷◌, ◌++◌, map, codes}
use Rattle.qpu_isa.specs.Fields.{fields_joined}

-- a value's name
pub record Named : Type 0 where
  pub name : List ℕ
  pub value : ℕ

-- an item: its name, the width of its field, below what its value lies, the value where it is missing, the values that have
-- names, and whether a label can stand for the value
pub record Row : Type 0 where
  pub name : List ℕ
  pub width : ℕ
  pub below : ℕ
  pub fallback : ℕ
  pub named : List Named
  pub takes_label : Bool

-- a kind of instruction: its first word, what stands above its items' fields, and the items in order
pub record Kind : Type 0 where
  pub opcode : List ℕ
  pub above : ℕ
  pub rows : List Row

abbrev pub item : List ℕ → ℕ → ℕ → Row
item name width fallback = record { name = name; width = width; below = 2 ^ width; fallback = fallback; named = []; takes_label = false }

abbrev pub operation : List ℕ → ℕ → List Named → Row
operation name width named = record { name = name; width = width; below = 2 ^ width; fallback = 0; named = named; takes_label = false }

abbrev pub widths_of : List Row → List ℕ
widths_of rows = map (λ row. row.width) rows

abbrev pub fallbacks_of : List Row → List ℕ
fallbacks_of rows = map (λ row. row.fallback) rows

-- names of values one after another, from a number on
abbrev pub names_numbered : ℕ → List (List ℕ) → List Named
names_numbered value [] = []
names_numbered value (name ∷ names) = record { name = name; value = value } ∷ names_numbered (value + 1) names

abbrev pub add_operations : List Named
add_operations =
    names_numbered 0 (codes "nop" ∷ codes "fadd" ∷ codes "fsub" ∷ codes "fmin" ∷ codes "fmax" ∷ codes "fminabs" ∷ codes "fmaxabs" ∷ codes "ftoi"
    ∷ codes "itof" ∷ [])
    ++ (names_numbered 12 (codes "add" ∷ codes "sub" ∷ codes "shr" ∷ codes "asr" ∷ codes "ror" ∷ codes "shl" ∷ codes "min" ∷ codes "max" ∷ codes "and"
    ∷ codes "or" ∷ codes "xor" ∷ codes "not" ∷ codes "clz" ∷ [])
    ++ names_numbered 30 (codes "v8adds" ∷ codes "v8subs" ∷ []))

abbrev pub multiply_operations : List Named
multiply_operations =
    names_numbered 0 (codes "nop" ∷ codes "fmul" ∷ codes "mul24" ∷ codes "v8muld" ∷ codes "v8min" ∷ codes "v8max" ∷ codes "v8adds" ∷ codes "v8subs" ∷ [])

-- which registers are written
abbrev pub address_rows : List Row
address_rows = item (codes "ws") 1 0 ∷ item (codes "wa") 6 39 ∷ item (codes "wm") 6 39 ∷ []

-- how results are packed, on which conditions they are written, and where
abbrev pub result_rows : List Row
result_rows =
    item (codes "pm") 1 0
    ∷ item (codes "pack") 4 0
    ∷ item (codes "ca") 3 0
    ∷ item (codes "cm") 3 0
    ∷ item (codes "sf") 1 0
    ∷ address_rows

-- signals 14 and 15 are the other kinds'
abbrev pub alu_rows : List Row
alu_rows =
    record { name = codes "sig"; width = 4; below = 14; fallback = 1; named = []; takes_label = false }
    ∷ item (codes "unpack") 3 0
    ∷ result_rows
    ++ operation (codes "om") 3 multiply_operations
    ∷ operation (codes "oa") 5 add_operations
    ∷ item (codes "ra") 6 39
    ∷ item (codes "rb") 6 39
    ∷ item (codes "aa") 3 0
    ∷ item (codes "ab") 3 0
    ∷ item (codes "ma") 3 0
    ∷ item (codes "mb") 3 0
    ∷ []

abbrev pub load_imm_rows : List Row
load_imm_rows = item (codes "mode") 3 0 ∷ result_rows ++ item (codes "imm") 32 0 ∷ []

-- `to` with a label can stand in place of `imm`
abbrev pub branch_rows : List Row
branch_rows =
    item (codes "sp") 4 0
    ∷ item (codes "cond") 4 15
    ∷ item (codes "rel") 1 1
    ∷ item (codes "reg") 1 0
    ∷ item (codes "ra") 5 0
    ∷ address_rows
    ++ record { name = codes "imm"; width = 32; below = 2 ^ 32; fallback = 0; named = []; takes_label = true }
    ∷ []

abbrev pub alu_kind : Kind
alu_kind = record { opcode = codes "alu"; above = 0; rows = alu_rows }

abbrev pub load_imm_kind : Kind
load_imm_kind = record { opcode = codes "li"; above = 14; rows = load_imm_rows }

abbrev pub branch_kind : Kind
branch_kind = record { opcode = codes "br"; above = 15; rows = branch_rows }

-- `nop` is `alu` without items, and takes none
unfoldable pub nop_word : ℕ
nop_word = fields_joined 0 (widths_of alu_rows) (fallbacks_of alu_rows)

abbrev pub nop_kind : Kind
nop_kind = record { opcode = codes "nop"; above = 0x100009e7009e7000; rows = [] }
