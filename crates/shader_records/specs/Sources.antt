-- Where the sources of states' records and of their shaders' uniforms lie, and where what is emitted
-- of them goes.
--
-- A record's source is three handles (u32) for the code of its fragment, vertex and coordinate shader,
-- one for each attribute, and then the record. The uniforms that a shader takes are one handle for each
-- sample, and then the words of its stream. Records and streams are emitted one after the other.
use Rattle.std.specs.Prelude.{◌≡◌, ◌≤◌, ℕ, zero, suc, ◌+◌, ◌*◌, List, length, Option, Some, None, slice_index_or, Bool, true, false}
use Rattle.field_words.specs.Words.{u32_at}
use Rattle.buffer_table.specs.{Table.TableModel, Table.buffer_at, Handles.data_of, Handles.code_of}
use Rattle.qpu_isa.specs.Shader.{ShaderModel}
use Rattle.packets.specs.StateWord.{attribute_count, record_size, record_room, is_extended}
use Rattle.bin_list.specs.declared.state.State.{State}
use Rattle.shader_records.specs.Inputs.{InputModel, shader_in}

abbrev pub no_state : State
no_state = record { word = 0; max_index = 0 }

abbrev pub state_at : InputModel → ℕ → State
state_at input k = slice_index_or input.states k no_state

-- the bytes of a record's handles, and of its whole source
unfoldable pub handles_size : ℕ → ℕ
handles_size state = 4 * (3 + attribute_count state)

unfoldable pub source_size : ℕ → ℕ
source_size state = handles_size state + record_size state

-- where the source of state k's record begins, and where its record is emitted
unfoldable pub record_source : InputModel → ℕ → ℕ
record_source input zero = 0
record_source input (suc k) = record_source input k + source_size (state_at input k).word

unfoldable pub record_offset : InputModel → ℕ → ℕ
record_offset input zero = 0
record_offset input (suc k) = record_offset input k + record_room (state_at input k).word

-- Of a record whose source begins at a place: the buffer that its handle for shader s (0 fragment, 1 vertex,
-- 2 coordinate) names, and that for attribute t.
unfoldable pub code_number : InputModel → ℕ → ℕ → Option ℕ
code_number input at s = code_of input.table input.handles (u32_at input.records (at + 4 * s))

unfoldable pub attribute_number : InputModel → ℕ → ℕ → Option ℕ
attribute_number input at t = data_of input.table input.handles (u32_at input.records (at + (12 + 4 * t)))

abbrev pub shader_behind : List (Option ShaderModel) → Option ℕ → Option ShaderModel
shader_behind shaders None = None
shader_behind shaders (Some number) = shader_in shaders number

-- the shader that it starts, None where the handle names none
unfoldable pub shader_used : InputModel → ℕ → ℕ → Option ShaderModel
shader_used input at s = shader_behind input.shaders (code_number input at s)

abbrev pub is_threaded : Option ShaderModel → Bool
is_threaded None = false
is_threaded (Some shader) = shader.threaded

-- the bytes of uniforms that a shader takes, and those of its stream
abbrev pub taken_by : Option ShaderModel → ℕ
taken_by None = 0
taken_by (Some shader) = 4 * (length shader.samples + shader.uniforms)

abbrev pub given_by : Option ShaderModel → ℕ
given_by None = 0
given_by (Some shader) = 4 * shader.uniforms

-- those bytes of the shaders of a record before shader s
unfoldable pub taken_before : InputModel → ℕ → ℕ → ℕ
taken_before input at zero = 0
taken_before input at (suc s) = taken_before input at s + taken_by (shader_used input at s)

unfoldable pub given_before : InputModel → ℕ → ℕ → ℕ
given_before input at zero = 0
given_before input at (suc s) = given_before input at s + given_by (shader_used input at s)

-- where the uniforms of state k's shaders begin, and where their streams are emitted
unfoldable pub uniform_source : InputModel → ℕ → ℕ
uniform_source input zero = 0
uniform_source input (suc k) = uniform_source input k + taken_before input (record_source input k) 3

unfoldable pub stream_offset : InputModel → ℕ → ℕ
stream_offset input zero = 0
stream_offset input (suc k) = stream_offset input k + given_before input (record_source input k) 3

-- word k of the bytes from a place on
unfoldable pub word_from : List ℕ → ℕ → ℕ → ℕ
word_from bytes from k = u32_at bytes (from + 4 * k)

-- word i of the record whose source begins at a place
unfoldable pub record_word : InputModel → ℕ → ℕ → ℕ → ℕ
record_word input at state i = u32_at input.records (at + handles_size state + 4 * i)

-- Of a shader's uniforms that begin at a place: the buffer that the handle of sample i names, and word
-- k of the stream's source.
unfoldable pub sample_number : InputModel → ℕ → ℕ → Option ℕ
sample_number input from i = data_of input.table input.handles (u32_at input.uniforms (from + 4 * i))

unfoldable pub source_word : InputModel → ℕ → ShaderModel → ℕ → ℕ
source_word input from shader k = u32_at input.uniforms (from + 4 * length shader.samples + 4 * k)

-- the uniforms that a shader takes from a place on are there
abbrev pub HasUniforms : InputModel → ℕ → ShaderModel → Type 0
HasUniforms input from shader = from + taken_by (Some shader) ≤ length input.uniforms

-- a place in the uniforms is this one, and isn't past them
abbrev pub IsEnd : InputModel → ℕ → ℕ → Type 0
IsEnd input place end = (end ≡ place) × (end ≤ length input.uniforms)

-- an extended record has the high parts of so many strides
abbrev pub HasStrides : InputModel → (at state count : ℕ) → Type 0
HasStrides input at state count = is_extended state ≡ true → at + handles_size state + 100 + 4 * count ≤ length input.records

-- the place of a buffer, 0 where none is named
abbrev pub place_in : TableModel → Option ℕ → ℕ
place_in table None = 0
place_in table (Some number) = (buffer_at table.buffers number).place
