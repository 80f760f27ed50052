-- Why a command refuses, as a person reads it, or the notes of a shader that it accepts: a function of the refusal and of what was read.
use Rattle.std.specs.Prelude.{◌≡◌, ℕ, ◌%◌, ◌==◌, Bool, true, false, ◌&&◌, ◌||◌, List, [], ◌++◌, codes, length, nat_le, slice_index, option_map, Option, Some, None, Result, Ok, Err, if◌then◌else◌, decimal}
use Rattle.field_words.specs.{Questions.first_of, Sizes.most_words}
use Rattle.job_format.specs.{declared.rule.Refusal.Refusal, declared.rule.Stage.TheVariants.S, declared.rule.Stage.TheVariants.U, declared.rule.Stage.TheVariants.E}
use Rattle.job_check.specs.{Shaders.code_questions, Shaders.words_of, Whole.refusal_of}
use Rattle.job_make.specs.{declared.fault.MakeFault.MakeFault, Made.text_bytes, Sentences.sentence_of as mistake_of}
use Rattle.qpu_asm.specs.{declared.fault.AsmFault.AsmFault, Assembly.Assembled, Place.fault_place, Place.wanted_text}
use Rattle.qpu_asm.specs.{declared.place.FaultPlace.FaultPlace, declared.place.Opcode.TheVariants.Nop, declared.place.Wanted.Wanted}
use Rattle.qpu_asm.specs.declared.place.Wanted.TheVariants.{Item}
use Rattle.rule_words.specs.declared.name.Family.{Family}
use Rattle.rule_words.specs.declared.name.Family.TheVariants.{Kind as KindFamily, Check as StageFamily, V as LevelFamily}
use Rattle.refusal_facts.specs.Line.{line_text, line_of}
use Rattle.rule_words.specs.declared.name.RuleName.{RuleName}
use Rattle.rule_words.specs.Names.{name_text, sentence_of}
use Rattle.commands.specs.declared.answer.Answer.{Answer}
use Rattle.commands.specs.declared.cause.Cause.TheVariants.{Rule, Kind, Mistake, Shader as ShaderCause, Long, Call, Part, Size, Level as LevelCause, Notes, Words}
use Rattle.commands.specs.declared.command.Command.TheVariants.{Check, Verdict, Upgrade, Show, FromText, Asm, Disasm, Shader, ShaderText, Slots, Queue, Session, Untile, Tile, Level}
use Rattle.commands.specs.{declared.cause.Cause.Cause, declared.command.Command.Command, declared.surfaces.TexturePart.TexturePart}
use Rattle.commands.specs.declared.scripts.Script.TheVariants.{Slots as OfSlots, Queue as OfQueue, Session as OfSession}
use Rattle.commands.specs.{declared.scripts.Script.Script, Asked.refusal_by, Scripts.calls_text, Upgrade.format_rules, WordFault.word_fault_text}
use Rattle.shader_check.specs.{declared.fault.ShaderFault.ShaderFault, Rules.shader_questions}
use Rattle.shader_notes.specs.{Notes.notes_of, Text.has_note, Text.notes_text}
use Rattle.strict_rules.specs.{declared.rule.StrictFault.StrictFault, Least.number_of, Rules.strict_questions}
use Rattle.job_queue.specs.Calls.{fault_line as queue_fault}
use Rattle.job_session.specs.Calls.{fault_line as session_fault}
use Rattle.overflow_slots.specs.Calls.{fault_line as slots_fault}
use Rattle.tile_convert.specs.Picture.{surface_bytes, pixel_bytes}
use Rattle.tile_convert.specs.declared.level.LevelFault.TheVariants.{Texture, Face, Level as NoLevel}
use Rattle.tile_convert.specs.{Level.level_questions, declared.level.LevelFault.LevelFault}

-- the name of a kind of the assembler's faults
abbrev pub kind_of : AsmFault → RuleName
kind_of fault = record { family = KindFamily; number = fault.kind }

-- an item of the one instruction that has none
unfoldable pub is_bare : Wanted → Bool
is_bare (Item Nop) = true
is_bare wanted = false

-- what was expected, in words
unfoldable pub report_text : Wanted → List ℕ
report_text wanted = if is_bare wanted then codes "nop has no items" else wanted_text wanted

-- "vc4check: line 3, column 14: the value is a number from 0 to 63; see vc4check explain kind 3"
unfoldable pub kind_line : AsmFault → FaultPlace → List ℕ
kind_line fault place =
    codes "vc4check: line " ++ (decimal fault.line ++ (codes ", column " ++ (decimal place.column ++ (codes ": " ++ (report_text place.wanted
    ++ (codes "; see vc4check explain " ++ name_text (kind_of fault)))))))

-- "vc4check: line 3, column 14: SENTENCE"
unfoldable pub mistake_line : MakeFault → List ℕ
mistake_line fault =
    codes "vc4check: line " ++ (decimal fault.line ++ (codes ", column " ++ (decimal fault.column ++ (codes ": " ++ mistake_of fault.mistake))))

-- the name of a rule of shaders
abbrev pub shader_rule : ShaderFault → RuleName
shader_rule fault = record { family = StageFamily S; number = fault.number }

-- the name of a strict rule
abbrev pub strict_rule : StrictFault → RuleName
strict_rule fault = record { family = StageFamily E; number = number_of fault.rule }

-- how text is read, where bytes are no whole words
abbrev pub hint_by : Family → ℕ → List ℕ
hint_by (StageFamily S) number = if number == 1 then codes "; shader text is read with --asm" else []
hint_by family number = []

unfoldable pub text_hint : RuleName → List ℕ
text_hint name = hint_by name.family name.number

-- "vc4check: S24: SENTENCE (instruction 12); see vc4check explain S24"
unfoldable pub shader_line : RuleName → ℕ → List ℕ
shader_line name index =
    codes "vc4check: " ++ (name_text name ++ (codes ": " ++ (sentence_of name ++ (codes " (instruction "
    ++ (decimal index ++ (codes "); see vc4check explain " ++ (name_text name ++ text_hint name)))))))

unfoldable pub long_line : ℕ → List ℕ
long_line count = codes "vc4check: the shader has " ++ (decimal count ++ codes " instructions, of which it may have 8192")

-- "vc4check: line 3: this is no call, which is take JOB, .."
unfoldable pub call_line : Script → ℕ → List ℕ
call_line script line = codes "vc4check: line " ++ (decimal line ++ (codes ": this is no call, which is " ++ calls_text script))

unfoldable pub part_line : ℕ → List ℕ
part_line n = codes "vc4check: the input has " ++ (decimal n ++ codes " bytes, which are no whole words of 8")

unfoldable pub size_line : ℕ → ℕ → List ℕ
size_line n wanted = codes "vc4check: the input has " ++ (decimal n ++ (codes " bytes, and the picture takes " ++ decimal wanted))

-- the name of the rule that refuses a level
unfoldable pub level_rule : LevelFault → RuleName
level_rule (Texture number) = record { family = StageFamily U; number = number }
level_rule Face = record { family = LevelFamily; number = 1 }
level_rule NoLevel = record { family = LevelFamily; number = 2 }

-- "V2: SENTENCE"
unfoldable pub named_text : RuleName → List ℕ
named_text name = name_text name ++ (codes ": " ++ sentence_of name)

-- "vc4check: V2: SENTENCE; see vc4check explain V2"
unfoldable pub level_line : RuleName → List ℕ
level_line name = codes "vc4check: " ++ (named_text name ++ (codes "; see vc4check explain " ++ name_text name))

-- the line that a person reads
unfoldable pub cause_text : Cause → List ℕ
cause_text (Rule line) = line_text line
cause_text (Kind fault place) = kind_line fault place
cause_text (Mistake fault) = mistake_line fault
cause_text (ShaderCause name index) = shader_line name index
cause_text (Long count) = long_line count
cause_text (Call script line) = call_line script line
cause_text (Part n) = part_line n
cause_text (Size n wanted) = size_line n wanted
cause_text (LevelCause name) = level_line name
cause_text (Notes notes) = notes_text notes
cause_text (Words fault) = word_fault_text fault

-- an answer that refuses, with this text and for this cause
abbrev pub IsRefusal : List ℕ → Option Cause → Answer → Type 0
IsRefusal text cause answer = (answer.status ≡ 1) × (answer.text.items ≡ text) × (answer.cause ≡ cause)

-- the line of the first broken rule of these bytes, if any
abbrev pub rule_cause : List ℕ → Option Refusal → Option Cause
rule_cause bytes = option_map (λ refusal. Rule (line_of bytes refusal))

-- the first fault of an assembler's text, and where on its line it stands
abbrev pub kind_cause : List ℕ → Result (List ℕ) AsmFault → Option Cause
kind_cause text (Ok words) = None
kind_cause text (Err fault) = Some (Kind fault (fault_place text fault))

-- the first fault of a text of bytes
abbrev pub mistake_cause : Result (List ℕ) MakeFault → Option Cause
mistake_cause (Ok bytes) = None
mistake_cause (Err fault) = Some (Mistake fault)

-- a rule that a shader breaks
abbrev pub shader_cause : ShaderFault → Cause
shader_cause fault = ShaderCause (shader_rule fault) fault.index

abbrev pub strict_cause : StrictFault → Cause
strict_cause fault = ShaderCause (strict_rule fault) fault.at

-- the notes of a shader that no rule refuses, where it gets any
abbrev pub notes_cause : List ℕ → Option Cause
notes_cause code = if has_note (notes_of code) then Some (Notes (notes_of code)) else None

-- the first strict rule that is broken, where those are asked
abbrev pub strict_fault : (strict : Bool) → List ℕ → Option StrictFault
strict_fault strict code = if strict then first_of (strict_questions code) else None

-- that of a shader that breaks no other rule, or its notes
abbrev pub report_by : List ℕ → Option StrictFault → Option Cause
report_by code None = notes_cause code
report_by code (Some fault) = Some (strict_cause fault)

abbrev pub report_cause : (strict : Bool) → List ℕ → Option Cause
report_cause strict code = report_by code (strict_fault strict code)

-- the first broken rule of a shader of these words
abbrev pub shader_cause_of : (strict : Bool) → List ℕ → Option ShaderFault → Option Cause
shader_cause_of strict code None = report_cause strict code
shader_cause_of strict code (Some fault) = Some (shader_cause fault)

-- the cause for words of which there may be too many
abbrev pub words_cause : (strict : Bool) → List ℕ → Option Cause
words_cause strict code =
    if nat_le (length code) most_words then shader_cause_of strict code (first_of (shader_questions code)) else Some (Long (length code))

-- that of a shader as text, which may have a fault
abbrev pub text_cause : (strict : Bool) → List ℕ → Result (List ℕ) AsmFault → Option Cause
text_cause strict text (Ok words) = words_cause strict words
text_cause strict text (Err fault) = Some (Kind fault (fault_place text fault))

-- bytes that are no whole words
abbrev pub part_cause : ℕ → Option Cause
part_cause n = if n % 8 == 0 then None else Some (Part n)

-- as many bytes as wanted, or another number
abbrev pub size_cause : ℕ → ℕ → Option Cause
size_cause n wanted = if n == wanted then None else Some (Size n wanted)

abbrev pub level_fault : TexturePart → List ℕ → Option LevelFault
level_fault part bytes = first_of (level_questions (slice_index part.setup 0) (slice_index part.setup 1) (slice_index part.setup 2)
    (slice_index part.setup 3) (length bytes) part.face part.level)

-- Why each command refuses its input, or the notes of a shader; None where there are neither.
abbrev pub IsCause : Command → List ℕ → Option Cause → Type 0
IsCause (Check strict) bytes cause = cause ≡ rule_cause bytes (refusal_by strict bytes)
IsCause Upgrade bytes cause = cause ≡ rule_cause bytes (first_of (format_rules bytes))
IsCause (Verdict strict form) bytes cause = cause ≡ None
IsCause (Show showing) bytes cause = cause ≡ None
IsCause FromText bytes cause = cause ≡ mistake_cause (text_bytes bytes)
IsCause Asm bytes cause = cause ≡ kind_cause bytes (Assembled bytes)
IsCause (Disasm notes) bytes cause = cause ≡ part_cause (length bytes)
IsCause (Shader strict) bytes cause = cause ≡ shader_cause_of strict (words_of bytes) (first_of (code_questions bytes))
IsCause (ShaderText strict) bytes cause = cause ≡ text_cause strict bytes (Assembled bytes)
IsCause (Slots slots) bytes cause = cause ≡ option_map (Call OfSlots) (slots_fault bytes)
IsCause (Queue buffers) bytes cause = cause ≡ option_map (Call OfQueue) (queue_fault bytes)
IsCause Session bytes cause = cause ≡ option_map (Call OfSession) (session_fault bytes)
IsCause (Untile p) bytes cause = cause ≡ size_cause (length bytes) (surface_bytes p)
IsCause (Tile p) bytes cause = cause ≡ size_cause (length bytes) (pixel_bytes p)
IsCause (Level part) bytes cause = cause ≡ option_map (λ fault. LevelCause (level_rule fault)) (level_fault part bytes)
IsCause command bytes cause = cause ≡ rule_cause bytes (refusal_of bytes)

-- A person learns something of a refusal, and of a shader that is accepted.
abbrev pub gives_notes : Command → Bool
gives_notes (Shader strict) = true
gives_notes (ShaderText strict) = true
gives_notes command = false

unfoldable pub is_reported : Command → ℕ → Bool
is_reported command status = status == 1 || (status == 0 && gives_notes command)
