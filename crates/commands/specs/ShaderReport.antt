-- What `shader` answers: what a shader takes and reads, or the rule that refuses it, of the words that the input spells or assembles to.
use Rattle.std.specs.Prelude.{◌≡◌, ◌⊎◌, ℕ, ◌≤◌, ◌<◌, Bool, List, [], ◌++◌, codes, length, Option, Some, None, Ok, Err, if◌then◌else◌, decimal, flat_map}
use Rattle.field_words.specs.{Questions.Question, Questions.IsFirst, Questions.first_of, Sizes.most_words}
use Rattle.job_check.specs.Shaders.{words_of, code_questions, report_of}
use Rattle.qpu_asm.specs.{declared.fault.AsmFault.AsmFault, Assembly.Assembled}
use Rattle.qpu_isa.specs.{declared.inst.Sample.Sample, Shader.ShaderModel}
use Rattle.shader_check.specs.{declared.fault.ShaderFault.ShaderFault, Rules.shader_questions}
use Rattle.rule_words.specs.{declared.name.RuleName.RuleName, Names.name_text}
use Rattle.strict_rules.specs.{declared.rule.StrictFault.StrictFault, Rules.strict_questions}
use Rattle.commands.specs.{Shader.fault_text, Cause.shader_rule, Cause.strict_rule, Cause.strict_fault}

-- the uniforms that a sample's set-up words are
unfoldable pub position_text : Option ℕ → List ℕ
position_text None = []
position_text (Some position) = codes " " ++ decimal position

-- a sample reads a texture, or a buffer at an address that the shader computed
abbrev pub sample_name : Bool → List ℕ
sample_name direct = if direct then codes "direct" else codes "texture"

-- "texture 2 3"
unfoldable pub sample_line : Sample → List ℕ
sample_line sample = sample_name sample.direct ++ (flat_map position_text sample.p ++ codes "\n")

-- "address 9"
unfoldable pub address_line : ℕ → List ℕ
address_line position = codes "address " ++ (decimal position ++ codes "\n")

abbrev pub thread_count : Bool → ℕ
thread_count threaded = if threaded then 2 else 1

-- what is printed of a shader that no rule refuses: how many uniforms and threads it takes, and its samples and address words in order
unfoldable pub head_text : ℕ → ℕ → List ℕ
head_text uniforms threads = codes "accepted\nuniforms " ++ (decimal uniforms ++ (codes "\nthreads " ++ (decimal threads ++ codes "\n")))

unfoldable pub shader_text : ShaderModel → List ℕ
shader_text shader =
    head_text shader.uniforms (thread_count shader.threaded) ++ (flat_map sample_line shader.samples ++ flat_map address_line shader.address_words)

-- a line for the rule that refuses it, and the instruction
unfoldable pub shader_refusal : RuleName → ℕ → List ℕ
shader_refusal name index = codes "refused " ++ (name_text name ++ (codes " at instruction " ++ (decimal index ++ codes "\n")))

-- a line for a text of too many instructions
unfoldable pub long_text : ℕ → List ℕ
long_text count = codes "instructions " ++ (decimal count ++ codes "\n")

-- what is answered of a shader in which no rule is broken: what it takes and reads
abbrev pub IsFine : List ℕ → ℕ → List ℕ → Type 0
IsFine code status text = (status ≡ 0) × (text ≡ shader_text (report_of code))

-- or the first of the strict rules that it breaks, where they are asked
abbrev pub IsReportedBy : List ℕ → Option StrictFault → ℕ → List ℕ → Type 0
IsReportedBy code None status text = IsFine code status text
IsReportedBy code (Some fault) status text =
    (status ≡ 1) × (text ≡ shader_refusal (strict_rule fault) fault.at) × IsFirst (strict_questions code) fault

abbrev pub IsReported : (strict : Bool) → List ℕ → ℕ → List ℕ → Type 0
IsReported strict code status text = IsReportedBy code (strict_fault strict code) status text

-- where another rule is broken, it is refused by the first that is
abbrev pub IsVerdict : (strict : Bool) → List (Question ShaderFault) → List ℕ → Option ShaderFault → ℕ → List ℕ → Type 0
IsVerdict strict questions code None status text = IsReported strict code status text
IsVerdict strict questions code (Some fault) status text =
    (status ≡ 1) × (text ≡ shader_refusal (shader_rule fault) fault.index) × IsFirst questions fault

-- the words that the bytes spell, 8 bytes each; the first rule is that they are whole words
abbrev pub IsShaderAnswer : (strict : Bool) → List ℕ → ℕ → List ℕ → Type 0
IsShaderAnswer strict bytes status text = IsVerdict strict (code_questions bytes) (words_of bytes) (first_of (code_questions bytes)) status text

-- these words, of which there may be too many
abbrev pub IsWordsAnswer : (strict : Bool) → List ℕ → ℕ → List ℕ → Type 0
IsWordsAnswer strict code status text =
    ((length code ≤ most_words) × IsVerdict strict (shader_questions code) code (first_of (shader_questions code)) status text)
    ⊎ ((most_words < length code) × (status ≡ 1) × (text ≡ long_text (length code)))

-- the words of a text without faults; any other text is answered as `asm` does, with its first fault
abbrev pub IsShaderTextAnswer : (strict : Bool) → List ℕ → ℕ → List ℕ → Type 0
IsShaderTextAnswer strict text status out =
    ((code : List ℕ) × (Assembled text ≡ Ok code) × IsWordsAnswer strict code status out)
    ⊎ ((fault : AsmFault) × (Assembled text ≡ Err fault) × (status ≡ 1) × (out ≡ fault_text fault))
