-- What a line says of its bytes.
use Rattle.std.specs.Prelude.{ℕ, ◌++◌, List, [], codes, decimal, drop, slice_index, Option, Some, None}
use Rattle.field_words.specs.Words.{u32_at, u64_at}
use Rattle.qpu_asm.specs.Printed.{word_text}
use Rattle.qpu_text.specs.Word.{familiar_text}
use Rattle.job_text.specs.declared.note.Note.TheVariants.{Number, Named, Sized, Handle, Packet, BehindHalt, Records, Uniform, Taken, Data, Instruction, Unread}
use Rattle.job_text.specs.{declared.note.Note.Note, declared.note.Meaning.Meaning, declared.note.Part.Part, declared.note.Stage.Stage}
use Rattle.job_text.specs.{declared.note.Field.Field, Meanings.bits_style, Meanings.size_text, Uniforms.meaning_text}
use Rattle.job_text.specs.declared.note.Meaning.TheVariants.{Plain}
use Rattle.job_text.specs.Floats.{float_text}
use Rattle.job_text.specs.Names.{named_text, of_job, part_text, stage_name}
use Rattle.job_text.specs.Rows.{packet_text, field_valued}

-- a note of the number that some bytes are, where numbers count
unfoldable pub number_note : ℕ → List ℕ → ℕ → List ℕ → List ℕ → List ℕ
number_note j name i what bytes = of_job j (name ++ (decimal i ++ (what ++ decimal (u32_at bytes 0))))

-- the uniform that an instruction takes, where it takes one
abbrev pub taken_text : Option ℕ → List ℕ
taken_text None = []
taken_text (Some uniform) = codes "; takes uniform " ++ decimal uniform

-- a word that a shader takes as a number, as a float
abbrev pub value_text : Meaning → ℕ → List ℕ
value_text Plain number = float_text number
value_text meaning number = []

-- which of the uniforms that the shader's instructions take it is, where it is one
abbrev pub own_text : Option ℕ → List ℕ
own_text None = []
own_text (Some own) = codes " uniform " ++ decimal own

-- which shader takes a uniform, as which of its own, and what it makes of it
unfoldable pub meant_text : ℕ → Stage → Option ℕ → Meaning → List ℕ
meant_text k stage own meaning =
    codes "; record " ++ (decimal k ++ (codes " " ++ (stage_name stage ++ (own_text own ++ (codes ": " ++ meaning_text meaning)))))

-- an instruction as familiar text, and the uniform that it takes
unfoldable pub description : ℕ → Option ℕ → List ℕ
description word uniform = familiar_text word ++ taken_text uniform

-- as assembler text, and so
unfoldable pub instruction_text : ℕ → Option ℕ → List ℕ
instruction_text word uniform = word_text word ++ (codes " | " ++ description word uniform)

-- the number of a buffer's instruction
unfoldable pub numbered_text : ℕ → ℕ → List ℕ
numbered_text b i = codes "buffer " ++ (decimal b ++ (codes " instruction " ++ (decimal i ++ codes ": ")))

-- a packet of a job's list, and the buffer of indexes behind it
unfoldable pub listed_text : ℕ → Option ℕ → List ℕ → List ℕ
listed_text j buffer packet = of_job j (codes "binner list: " ++ (packet_text (slice_index packet 0) (drop 1 packet) ++ named_text buffer))

-- a field, and what its part is
unfoldable pub field_text : Part → Field → List ℕ → List ℕ
field_text part field bytes = part_text part ++ (codes ": " ++ field_valued field bytes)

-- what a line says of its bytes
unfoldable pub note_text : Note → List ℕ → List ℕ
note_text (Number part field) bytes = field_text part field bytes
note_text (Named part field buffer) bytes = field_text part field bytes ++ named_text buffer
note_text (Sized part field width height) bytes = field_text part field bytes ++ size_text (bits_style field (u32_at bytes 0)) width height
note_text (Handle j i) bytes = number_note j (codes "handle ") i (codes ": buffer ") bytes
note_text (Packet j buffer) bytes = listed_text j buffer bytes
note_text (BehindHalt j) bytes = of_job j (codes "binner list: behind the halt")
note_text (Records j) bytes = of_job j (codes "shader records")
note_text (Uniform j i) bytes = number_note j (codes "uniform ") i (codes ": ") bytes
note_text (Taken j i k stage own meaning) bytes =
    number_note j (codes "uniform ") i (codes ": ") bytes ++ (value_text meaning (u32_at bytes 0) ++ meant_text k stage own meaning)
note_text (Data b) bytes = codes "buffer " ++ (decimal b ++ codes " content")
note_text (Instruction b i uniform) bytes = numbered_text b i ++ instruction_text (u64_at bytes 0) uniform
note_text Unread bytes = codes "unread"
