-- The rules of shader records (A) and of the uniforms that their shaders take (A8 and U), in the order
-- of refusal: state by state; in a state the record and then its shaders' uniforms, shader by shader and
-- sample by sample. A fault names a place in the job's records or in its uniforms.
use Rattle.std.specs.Prelude.{◌≡◌, ℕ, ◌+◌, ◌*◌, ◌/◌, ◌-◌, ◌==◌, Bool, not, ◌&&◌, nat_lt, List, [], ◌∷◌, ◌++◌, length, is_some, Option, Some, None, if◌then◌else◌}
use Rattle.field_words.specs.Questions.{Question, Ask, each, with_answers, first_of}
use Rattle.qpu_isa.specs.{declared.inst.Sample.Sample, Shader.ShaderModel, Shader.sample_at, Shader.first_position}
use Rattle.texture_layouts.specs.Fits.{texture_questions, direct_questions}
use Rattle.emitted_facts.specs.{Records.attribute_size, Records.attribute_stride, Records.is_single, Records.address_word, Facts.setup}
use Rattle.packets.specs.StateWord.{attribute_count}
use Rattle.shader_records.specs.declared.rule.RecordRule.TheVariants.{HandlesCutOff, RecordCutOff, NoCode, NoData, ThreadsDisagree, ThreadedVertex, CodeWordSet, AttributeOutside, VertexOutside, NoTexture}
use Rattle.shader_records.specs.Sources.{state_at, handles_size, source_size, record_source, uniform_source, code_number, attribute_number, shader_used, is_threaded, taken_before, record_word, sample_number, source_word}
use Rattle.shader_records.specs.{declared.fault.RecordFault.RecordFault, Inputs.InputModel}
use Rattle.shader_records.specs.Faults.{number_of, record_fault, uniform_fault, sample_fault}
use Rattle.buffer_table.specs.Handles.{size_in}

-- A1: the handles are cut off. A2: the record is.
unfoldable pub cut_questions : InputModel → ℕ → ℕ → List (Question RecordFault)
cut_questions input at state =
    Ask (nat_lt (length input.records) (at + handles_size state)) (record_fault HandlesCutOff at)
    ∷ (Ask (nat_lt (length input.records) (at + source_size state)) (record_fault RecordCutOff (at + handles_size state)) ∷ [])

-- A3: a code handle names no Code buffer. A6: the vertex or the coordinate shader switches threads.
unfoldable pub code_questions : InputModel → ℕ → ℕ → List (Question RecordFault)
code_questions input at s =
    Ask (not (is_some (code_number input at s))) (record_fault NoCode (at + 4 * s))
    ∷ (Ask (not (s == 0) && is_threaded (shader_used input at s)) (record_fault ThreadedVertex (at + 4 * s)) ∷ [])

-- A4: an attribute's handle names no data buffer.
unfoldable pub handle_questions : InputModel → ℕ → ℕ → List (Question RecordFault)
handle_questions input at t = Ask (not (is_some (attribute_number input at t))) (record_fault NoData (at + (12 + 4 * t))) ∷ []

-- A5: the fragment shader switches threads and the flags say that it doesn't, or the other way round.
unfoldable pub disagrees : Bool → Bool → Bool
disagrees single threaded = if single then threaded else not threaded

-- A7: a word for a code address isn't 0.
unfoldable pub fixed_questions : InputModel → ℕ → ℕ → List (Question RecordFault)
fixed_questions input at state =
    Ask (disagrees (is_single (record_word input at state)) (is_threaded (shader_used input at 0))) (record_fault ThreadsDisagree (at + handles_size state))
    ∷ (Ask (not (record_word input at state 1 == 0)) (record_fault CodeWordSet (at + handles_size state + 4))
    ∷ (Ask (not (record_word input at state 4 == 0)) (record_fault CodeWordSet (at + handles_size state + 16))
    ∷ (Ask (not (record_word input at state 7 == 0)) (record_fault CodeWordSet (at + handles_size state + 28)) ∷ [])))

-- A9: the first vertex's data end past the buffer. A10: the vertices up to the greatest index do.
unfoldable pub is_attribute_past : ℕ → ℕ → ℕ → Bool
is_attribute_past size address bytes = nat_lt size (address + bytes)

unfoldable pub has_vertex_past : ℕ → ℕ → ℕ → ℕ → ℕ → Bool
has_vertex_past size address bytes stride most = not (stride == 0) && nat_lt ((size - address - bytes) / stride) most

unfoldable pub attribute_questions : InputModel → ℕ → ℕ → ℕ → ℕ → List (Question RecordFault)
attribute_questions input at state most t =
    Ask (is_attribute_past (size_in input.table (attribute_number input at t)) (record_word input at state (address_word t)) (attribute_size (record_word input at state) t))
    (record_fault AttributeOutside (at + handles_size state + (36 + 8 * t)))
    ∷ (Ask (has_vertex_past (size_in input.table (attribute_number input at t)) (record_word input at state (address_word t)) (attribute_size (record_word input at state) t) (attribute_stride state (record_word input at state) t) most)
    (record_fault VertexOutside (at + handles_size state + (36 + 8 * t))) ∷ [])

-- The rules at a record's handles, and those in the record itself.
unfoldable pub names_questions : InputModel → ℕ → ℕ → List (Question RecordFault)
names_questions input at state = each (code_questions input at) 0 3 ++ each (handle_questions input at) 0 (attribute_count state)

unfoldable pub body_questions : InputModel → ℕ → ℕ → ℕ → List (Question RecordFault)
body_questions input at state most =
    fixed_questions input at state ++ each (attribute_questions input at state most) 0 (attribute_count state)

abbrev pub whole_questions : InputModel → ℕ → ℕ → ℕ → List (Question RecordFault)
whole_questions input at state most = names_questions input at state ++ body_questions input at state most

-- The rules of one record, whose source begins at a place. They stand by place and number.
unfoldable pub record_questions : InputModel → ℕ → ℕ → ℕ → List (Question RecordFault)
record_questions input at state most = cut_questions input at state ++ whole_questions input at state most

-- none of them is broken
abbrev pub IsFineRecord : InputModel → ℕ → ℕ → ℕ → Type 0
IsFineRecord input at state most = first_of (record_questions input at state most) ≡ None

-- U1: a sample's handle names no data buffer. U2 to U9: the sample doesn't fit the buffer.
unfoldable pub setup_questions : Sample → (ℕ → ℕ) → ℕ → List (Question ℕ)
setup_questions sample word size =
    if sample.direct
    then direct_questions (setup word sample 0) (setup word sample 1) size
    else texture_questions (setup word sample 0) (setup word sample 1) (setup word sample 2) (setup word sample 3) size

-- where a sample's first word is in the uniforms
unfoldable pub first_word_at : ShaderModel → ℕ → ℕ → ℕ
first_word_at shader from i = from + 4 * length shader.samples + 4 * first_position (sample_at shader i)

unfoldable pub sample_questions : InputModel → ℕ → ShaderModel → ℕ → List (Question RecordFault)
sample_questions input from shader i =
    Ask (not (is_some (sample_number input from i))) (sample_fault (from + 4 * i) (number_of NoTexture))
    ∷ with_answers (sample_fault (first_word_at shader from i)) (setup_questions (sample_at shader i) (source_word input from shader) (size_in input.table (sample_number input from i)))

-- A8: fewer bytes of uniforms are left than a shader takes. Then the rules of its samples.
unfoldable pub use_questions : InputModel → ℕ → Option ShaderModel → List (Question RecordFault)
use_questions input from None = []
use_questions input from (Some shader) =
    Ask (nat_lt (length input.uniforms) (from + 4 * (length shader.samples + shader.uniforms))) (uniform_fault from)
    ∷ each (sample_questions input from shader) 0 (length shader.samples)

-- none of them is broken
abbrev pub IsFineUse : InputModel → ℕ → Option ShaderModel → Type 0
IsFineUse input from shader = first_of (use_questions input from shader) ≡ None

unfoldable pub shader_questions : InputModel → ℕ → ℕ → ℕ → List (Question RecordFault)
shader_questions input at from s = use_questions input (from + taken_before input at s) (shader_used input at s)

-- all rules of a state, and of all states
unfoldable pub state_questions : InputModel → ℕ → List (Question RecordFault)
state_questions input k =
    record_questions input (record_source input k) (state_at input k).word (state_at input k).max_index
    ++ each (shader_questions input (record_source input k) (uniform_source input k)) 0 3

unfoldable pub all_questions : InputModel → List (Question RecordFault)
all_questions input = each (state_questions input) 0 (length input.states)
