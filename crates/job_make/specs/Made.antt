-- The bytes that a text holds: on each line what stands before a `#`, in words. A word is two hexadecimal digits for each byte, or a
-- number, which may be the length of a section of the text. The lines between `asm` and `end` are assembler text, which gives the
-- bytes of its instruction words.
use Rattle.std.specs.Prelude.{◌≡◌, ℕ, ◌+◌, ◌*◌, ◌==◌, ◌||◌, not, is_some, nat_lt, nat_le, bytes_eq, take, drop, length, map, Bool, false, List, [], ◌∷◌, ◌++◌, codes, Option, Some, None, Result, Ok, Err, if◌then◌else◌}
use Rattle.std.specs.{Int.to_le_bytes, Int.w64, List.flat_map, Option.option_or}
use Rattle.hex.specs.Hex.{hex_digit_value}
use Rattle.script.specs.{Lines.before, Lines.behind, Lines.lines_of, Lines.onto_line, Number.number_within}
use Rattle.field_words.specs.{declared.stop.Stop.Stop, declared.stop.Stop.TheVariants.Fault, declared.stop.Stop.TheVariants.NoMemory}
use Rattle.qpu_asm.specs.{declared.fault.AsmFault.AsmFault, Assembly.Assembled, Place.fault_place}
use Rattle.job_make.specs.declared.fault.Mistake.TheVariants.{WrongCharacter, LoneDigit, WrongNumber, UnknownSection, SecondSection, NoEnd, LongBlock, Assembler}
use Rattle.job_make.specs.declared.fault.Mistake.{Mistake}
use Rattle.job_make.specs.declared.fault.MakeFault.{MakeFault}
use Rattle.job_make.specs.declared.sections.Section.{Section}

-- a space, a tab or a carriage return
unfoldable pub is_blank : ℕ → Bool
is_blank c = (c == 32) || ((c == 9) || (c == 13))

-- The words of a line, each up to a blank. So they may be empty.
unfoldable pub words_of : List ℕ → List (List ℕ)
words_of [] = []
words_of (c ∷ cs) = if is_blank c then [] ∷ words_of cs else onto_line c (words_of cs)

-- the words that aren't empty
unfoldable pub full_of : List (List ℕ) → List (List ℕ)
full_of [] = []
full_of ([] ∷ words) = full_of words
full_of ((c ∷ cs) ∷ words) = (c ∷ cs) ∷ full_of words

abbrev pub is_alone : List ℕ → List (List ℕ) → Bool
is_alone word (other ∷ []) = bytes_eq other word
is_alone word words = false

-- a line has this word alone, and perhaps a note
unfoldable pub says : List ℕ → List ℕ → Bool
says word text = is_alone word (full_of (words_of (before 35 text)))

abbrev pub named_by : List (List ℕ) → Option (List ℕ)
named_by (word ∷ name ∷ []) = if bytes_eq word (codes "section") then Some name else None
named_by words = None

-- the name on a line that has the word `section` and a name, and perhaps a note
unfoldable pub section_named : List ℕ → Option (List ℕ)
section_named text = named_by (full_of (words_of (before 35 text)))

-- the name of a section on a line that isn't assembler text
unfoldable pub name_on : Bool → List ℕ → Option (List ℕ)
name_on inside text = if inside then None else section_named text

-- the section that a name stands for, where there is one
abbrev pub Sections : Type 0
Sections = List ℕ → Option Section

-- The byte of the two digits at a column. What is no digit is a wrong character, and a digit needs another one right behind it.
abbrev pub byte_at : (line column : ℕ) → Option ℕ → Option ℕ → Result ℕ MakeFault
byte_at line column None low = Err (record { line = line; column = column; mistake = WrongCharacter })
byte_at line column (Some high) None = Err (record { line = line; column = column; mistake = LoneDigit })
byte_at line column (Some high) (Some low) = Ok (16 * high + low)

-- the digit at the front of a text
abbrev pub front_digit : List ℕ → Option ℕ
front_digit [] = None
front_digit (c ∷ cs) = hex_digit_value c

-- two readings, one after the other: the first fault counts
abbrev pub both : Result (List ℕ) MakeFault → Result (List ℕ) MakeFault → Result (List ℕ) MakeFault
both (Err fault) later = Err fault
both (Ok bytes) (Err fault) = Err fault
both (Ok bytes) (Ok more) = Ok (bytes ++ more)

abbrev pub one_byte : Result ℕ MakeFault → Result (List ℕ) MakeFault
one_byte (Err fault) = Err fault
one_byte (Ok byte) = Ok (byte ∷ [])

-- the bytes of the digits from a column on
unfoldable pub digits_read : (line column : ℕ) → List ℕ → Result (List ℕ) MakeFault
digits_read line column [] = Ok []
digits_read line column (c ∷ []) = one_byte (byte_at line column (hex_digit_value c) None)
digits_read line column (c ∷ d ∷ rest) =
    both (one_byte (byte_at line column (hex_digit_value c) (hex_digit_value d))) (digits_read line (column + 2) rest)

-- a hexadecimal digit behind a number; None where there is none, or the number then has more than 32 bits
unfoldable pub with_digit : Option ℕ → Option ℕ → Option ℕ
with_digit None digit = None
with_digit (Some n) None = None
with_digit (Some n) (Some d) = if nat_lt n 268435456 then Some (16 * n + d) else None

unfoldable pub digits_after : Option ℕ → List ℕ → Option ℕ
digits_after n [] = n
digits_after n (c ∷ cs) = digits_after (with_digit n (hex_digit_value c)) cs

-- at least one digit
unfoldable pub hex_number : List ℕ → Option ℕ
hex_number [] = None
hex_number (c ∷ cs) = digits_after (Some 0) (c ∷ cs)

-- the number that a text names: decimal, or hexadecimal digits behind `0x`
unfoldable pub number_named : List ℕ → Option ℕ
number_named text = if bytes_eq (take 2 text) (codes "0x") then hex_number (drop 2 text) else number_within 4294967295 text

-- how many bytes the number of a word has, by what stands before its colon
unfoldable pub size_named : List ℕ → Option ℕ
size_named name =
    if bytes_eq name (codes "u8") then Some 1
    else (if bytes_eq name (codes "u16") then Some 2 else (if bytes_eq name (codes "u32") then Some 4 else None))

-- the largest number of so many bytes
unfoldable pub most_of : ℕ → ℕ
most_of size = if size == 1 then 255 else (if size == 2 then 65535 else 4294967295)

abbrev pub number_or : Mistake → Option ℕ → Result ℕ Mistake
number_or mistake None = Err mistake
number_or mistake (Some n) = Ok n

abbrev pub size_of : Option Section → Option ℕ
size_of None = None
size_of (Some section) = Some section.size

-- the number that a text names, or behind `len:` the length of the section of that name
unfoldable pub number_said : Sections → List ℕ → Result ℕ Mistake
number_said sections text =
    if bytes_eq (take 4 text) (codes "len:") then number_or UnknownSection (size_of (sections (drop 4 text)))
    else number_or WrongNumber (number_named text)

-- the bytes of a number, of which the least comes first
unfoldable pub number_read : (line column size : ℕ) → Result ℕ Mistake → Result (List ℕ) MakeFault
number_read line column size (Err mistake) = Err (record { line = line; column = column; mistake = mistake })
number_read line column size (Ok n) =
    if nat_le n (most_of size) then Ok (take size (to_le_bytes w64 n))
    else Err (record { line = line; column = column; mistake = WrongNumber })

-- a word at a column: digits, or a number behind `u8:`, `u16:` or `u32:`
abbrev pub word_by : Sections → (line column : ℕ) → List ℕ → Option ℕ → Result (List ℕ) MakeFault
word_by sections line column word None = digits_read line column word
word_by sections line column word (Some size) = number_read line column size (number_said sections (behind 58 word))

unfoldable pub word_read : Sections → (line column : ℕ) → List ℕ → Result (List ℕ) MakeFault
word_read sections line column word = word_by sections line column word (size_named (before 58 word))

-- the words from a column on
unfoldable pub words_read : Sections → (line column : ℕ) → List (List ℕ) → Result (List ℕ) MakeFault
words_read sections line column [] = Ok []
words_read sections line column (word ∷ words) =
    both (word_read sections line column word) (words_read sections line (column + (length word + 1)) words)

-- what stands on a line from a `#` on is a note
abbrev pub line_read : Sections → ℕ → List ℕ → Result (List ℕ) MakeFault
line_read sections line text = words_read sections line 1 (words_of (before 35 text))

-- a line that names a section gives nothing, but no other line may name it too
abbrev pub name_read : ℕ → Option Section → Result (List ℕ) MakeFault
name_read line None = Ok []
name_read line (Some section) = if section.line == line then Ok [] else Err (record { line = line; column = 1; mistake = SecondSection })

abbrev pub line_or_name : Sections → ℕ → List ℕ → Option (List ℕ) → Result (List ℕ) MakeFault
line_or_name sections line text None = line_read sections line text
line_or_name sections line text (Some name) = name_read line (sections name)

-- the assembler reads no other blank than a space
unfoldable pub with_spaces : ℕ → ℕ
with_spaces c = if is_blank c then 32 else c

-- a line for the assembler: without its note
unfoldable pub asm_line : List ℕ → List ℕ
asm_line text = map with_spaces (before 35 text) ++ codes "\n"

-- the assembler text on the lines up to one that says `end`, which must be there, behind an `asm` on the line of this number
unfoldable pub block_text : ℕ → List (List ℕ) → Result (List ℕ) MakeFault
block_text line [] = Err (record { line = line; column = 1; mistake = NoEnd })
block_text line (text ∷ texts) = if says (codes "end") text then Ok [] else both (Ok (asm_line text)) (block_text line texts)

-- the bytes of instruction words, or the assembler's fault: its line is counted from that of `asm` on
abbrev pub words_made : ℕ → List ℕ → Result (List ℕ) AsmFault → Result (List ℕ) MakeFault
words_made line text (Ok words) = Ok (flat_map (to_le_bytes w64) words)
words_made line text (Err fault) =
    Err (record { line = line + fault.line; column = (fault_place text fault).column; mistake = Assembler fault.kind })

-- the bytes that assembler text gives
unfoldable pub bytes_assembled : ℕ → List ℕ → Result (List ℕ) MakeFault
bytes_assembled line text =
    if nat_lt (length text) 4294967295 then words_made line text (Assembled text)
    else Err (record { line = line; column = 1; mistake = LongBlock })

abbrev pub then_assembled : ℕ → Result (List ℕ) MakeFault → Result (List ℕ) MakeFault
then_assembled line (Err fault) = Err fault
then_assembled line (Ok text) = bytes_assembled line text

-- what `asm` gives on a line, behind which these lines come
unfoldable pub block_read : ℕ → List (List ℕ) → Result (List ℕ) MakeFault
block_read line texts = then_assembled line (block_text line texts)

-- What a line gives, behind which these lines come. One of assembler text gives nothing of itself: its bytes are those of `asm`.
unfoldable pub part_read : Sections → ℕ → Bool → List ℕ → List (List ℕ) → Result (List ℕ) MakeFault
part_read sections line inside text texts =
    if inside then Ok []
    else (if says (codes "asm") text then block_read line texts else line_or_name sections line text (section_named text))

-- whether the next line is assembler text
unfoldable pub stays_inside : Bool → List ℕ → Bool
stays_inside inside text = if inside then not (says (codes "end") text) else says (codes "asm") text

-- the lines from a number on, of which the first may be assembler text
unfoldable pub lines_read : Sections → ℕ → Bool → List (List ℕ) → Result (List ℕ) MakeFault
lines_read sections line inside [] = Ok []
lines_read sections line inside (text ∷ texts) =
    both (part_read sections line inside text texts) (lines_read sections (line + 1) (stays_inside inside text) texts)

-- While bytes are counted each name stands for some section: whatever a length is, it takes as many bytes.
abbrev pub any_section : Sections
any_section name = Some (record { line = 0; size = 0 })

abbrev pub counted : Result (List ℕ) MakeFault → ℕ → ℕ
counted (Err fault) later = 0
counted (Ok bytes) later = length bytes + later

-- how many bytes the lines from a number on give, up to the next that names a section, or up to a fault
unfoldable pub size_from : ℕ → Bool → List (List ℕ) → ℕ
size_from line inside [] = 0
size_from line inside (text ∷ texts) =
    if is_some (name_on inside text) then 0
    else counted (part_read any_section line inside text texts) (size_from (line + 1) (stays_inside inside text) texts)

abbrev pub is_named : List ℕ → Option (List ℕ) → Bool
is_named name None = false
is_named name (Some other) = bytes_eq other name

-- the section of a name: it begins behind the last of these lines that names it
unfoldable pub section_from : ℕ → Bool → List (List ℕ) → Sections
section_from line inside [] name = None
section_from line inside (text ∷ texts) name =
    option_or (section_from (line + 1) (stays_inside inside text) texts name)
    (if is_named name (name_on inside text) then Some (record { line = line; size = size_from (line + 1) false texts }) else None)

abbrev pub text_sections : List ℕ → Sections
text_sections text = section_from 1 false (lines_of text)

-- the bytes of a whole text, whose lines count from 1, or the first fault in it
abbrev pub text_bytes : List ℕ → Result (List ℕ) MakeFault
text_bytes text = lines_read (text_sections text) 1 false (lines_of text)

-- a fault is the one that was read; want of memory says nothing
abbrev pub IsFaultOf : Result (List ℕ) MakeFault → Stop MakeFault → Type 0
IsFaultOf read (Fault fault) = read ≡ Err fault
IsFaultOf read NoMemory = Unit {0}
