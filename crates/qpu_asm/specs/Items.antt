-- The items of an instruction: what each one names, and its value.
use Rattle.std.specs.Prelude.{ℕ, ◌+◌, ◌-◌, ◌*◌, ◌%◌, ◌^◌, Bool, ◌&&◌, ◌||◌, nat_lt, List, [], ◌∷◌, length, codes, if◌then◌else◌, Option, Result, None, Some, Ok, Err}
use Rattle.std.specs.{List.list_any, Str.bytes_eq}
use Rattle.script.specs.{Lines.before, Number.is_number, Number.number_of}
use Rattle.qpu_asm.specs.declared.fault.Mistake.TheVariants.{UnknownWord, BadOperand, OutOfRange, UnknownLabel, LabelTwice}
use Rattle.qpu_asm.specs.{declared.label.Spot.Spot, declared.fault.Mistake.Mistake, Lines.is_name}
use Rattle.qpu_asm.specs.Table.{Named, Row, Kind, nop_kind, alu_kind, load_imm_kind, branch_kind}

-- where each label stands, where it stands anywhere
abbrev pub Spots : Type 0
Spots = List ℕ → Option Spot

abbrev pub mistake_number : Mistake → ℕ
mistake_number UnknownWord = 1
mistake_number BadOperand = 2
mistake_number OutOfRange = 3
mistake_number UnknownLabel = 4
mistake_number LabelTwice = 5

unfoldable pub read_number : ℕ → List ℕ → Result ℕ Mistake
read_number below text =
    if is_number text then (if nat_lt (number_of text) below then Ok (number_of text) else Err OutOfRange) else Err BadOperand

unfoldable pub find_named : List Named → List ℕ → Option ℕ
find_named [] text = None
find_named (named ∷ others) text = if bytes_eq named.name text then Some named.value else find_named others text

abbrev pub or_number : ℕ → List ℕ → Option ℕ → Result ℕ Mistake
or_number below text None = read_number below text
or_number below text (Some value) = Ok value

-- a value is a name that the row has, or a number
unfoldable pub read_plain : Row → List ℕ → Result ℕ Mistake
read_plain row text = or_number row.below text (find_named row.named text)

-- a branch counts from four instructions after itself, in bytes, modulo 2 ^ 32
unfoldable pub distance : ℕ → ℕ → ℕ
distance index target = (8 * target % 2 ^ 32 + (2 ^ 32 - 8 * (index + 4) % 2 ^ 32)) % 2 ^ 32

abbrev pub distance_to : ℕ → Option Spot → Result ℕ Mistake
distance_to index None = Err UnknownLabel
distance_to index (Some spot) = Ok (distance index spot.index)

unfoldable pub read_target : Spots → ℕ → List ℕ → Result ℕ Mistake
read_target spots index text = if is_name text then distance_to index (spots text) else Err BadOperand

-- the value of the row's item of that name
unfoldable pub read_value : Spots → ℕ → List ℕ → List ℕ → Row → Result ℕ Mistake
read_value spots index name text row = if bytes_eq row.name name then read_plain row text else read_target spots index text

-- a row's item is called by the row's name; `to` is the last one of a branch too
unfoldable pub is_row : List ℕ → Row → Bool
is_row name row = bytes_eq row.name name || (row.takes_label && bytes_eq (codes "to") name)

unfoldable pub has_row : List ℕ → List Row → Bool
has_row name rows = list_any (is_row name) rows

-- an item without `=` names nothing
unfoldable pub has_value : List ℕ → Bool
has_value item = nat_lt (length (before 61 item)) (length item)

unfoldable pub kind_named : List ℕ → Option Kind
kind_named word =
    if bytes_eq (codes "nop") word then Some nop_kind
    else (if bytes_eq (codes "alu") word then Some alu_kind
    else (if bytes_eq (codes "li") word then Some load_imm_kind
    else (if bytes_eq (codes "br") word then Some branch_kind else None)))
