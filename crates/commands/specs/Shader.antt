-- What `asm` and `disasm` answer to all of their input.
use Rattle.std.specs.Prelude.{◌≡◌, ◌≢◌, ◌⊎◌, ℕ, Bool, ◌%◌, List, ◌++◌, Ok, Err, codes, length, if◌then◌else◌}
use Rattle.std.specs.{List.flat_map, Fmt.decimal, Int.to_le_bytes, Int.w64}
use Rattle.job_check.specs.Shaders.{words_of}
use Rattle.job_text.specs.Noted.{noted_text}
use Rattle.qpu_asm.specs.{declared.fault.AsmFault.AsmFault, Assembly.Assembled, Printed.AsmText}

-- words as bytes, 8 each, the lowest first
unfoldable pub bytes_of : List ℕ → List ℕ
bytes_of words = flat_map (to_le_bytes w64) words

-- a line for the first fault of a text
unfoldable pub fault_text : AsmFault → List ℕ
fault_text fault = codes "line " ++ (decimal fault.line ++ (codes " fault " ++ (decimal fault.kind ++ codes "\n")))

-- a line for a length that is no multiple of 8
unfoldable pub length_text : ℕ → List ℕ
length_text n = codes "length " ++ (decimal n ++ codes "\n")

-- A text without faults is answered with its words, any other with its first fault.
abbrev pub IsAsmAnswer : List ℕ → ℕ → List ℕ → Type 0
IsAsmAnswer text status out =
    ((words : List ℕ) × (Assembled text ≡ Ok words) × (status ≡ 0) × (out ≡ bytes_of words))
    ⊎ ((fault : AsmFault) × (Assembled text ≡ Err fault) × (status ≡ 1) × (out ≡ fault_text fault))

-- the text of words, where notes are wanted with one above each line
abbrev pub words_text : (notes : Bool) → List ℕ → List ℕ
words_text notes words = if notes then noted_text words else AsmText words

-- Whole words are answered with their text, any other length by naming it.
abbrev pub IsDisasmAnswer : (notes : Bool) → List ℕ → ℕ → List ℕ → Type 0
IsDisasmAnswer notes bytes status out =
    ((length bytes % 8 ≡ 0) × (status ≡ 0) × (out ≡ words_text notes (words_of bytes)))
    ⊎ ((length bytes % 8 ≢ 0) × (status ≡ 1) × (out ≡ length_text (length bytes)))
