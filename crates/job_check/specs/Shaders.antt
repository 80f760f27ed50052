-- The shaders of a file. Each Code buffer holds one, whether or not a job names it: the words that its contents spell.
use Rattle.std.specs.Prelude.{◌≡◌, ℕ, ◌*◌, ◌/◌, ◌%◌, ◌==◌, not, List, [], ◌∷◌, length, map, slice_index_or, Option, Some, None}
use Rattle.std.specs.List.{range_with_len}
use Rattle.field_words.specs.{Words.u64_at, Questions.Question, Questions.Ask}
use Rattle.buffer_table.specs.{declared.buffer.Kind.Kind, declared.buffer.Kind.TheVariants.Plain, declared.buffer.Kind.TheVariants.Code}
use Rattle.buffer_table.specs.Table.{TableModel, buffer_at}
use Rattle.job_format.specs.Model.{FileModel}
use Rattle.qpu_isa.specs.Shader.{ShaderModel}
use Rattle.shader_records.specs.Inputs.{AreShadersOf}
use Rattle.shader_flow.specs.Flow.{is_threaded}
use Rattle.uniform_stream.specs.Stream.{uniforms_of, address_words_of}
use Rattle.shader_check.specs.{declared.fault.ShaderFault.ShaderFault, Info.samples_of, Rules.shader_questions}

-- the memory, the regions and the buffers of a file
abbrev pub table_of : FileModel → TableModel
table_of f = record { memory = f.mem_size; regions = f.regions; buffers = f.buffers }

-- the first n words of eight bytes, the lowest byte first, and all of them
unfoldable pub words_in : List ℕ → ℕ → List ℕ
words_in bytes n = map (λ i. u64_at bytes (8 * i)) (range_with_len 0 n)

abbrev pub words_of : List ℕ → List ℕ
words_of bytes = words_in bytes (length bytes / 8)

-- the rules of a shader in bytes, first of them that the bytes are whole words
unfoldable pub code_questions : List ℕ → List (Question ShaderFault)
code_questions bytes = Ask (not (length bytes % 8 == 0)) (record { number = 1; index = 0 }) ∷ shader_questions (words_of bytes)

-- what is reported of a shader without faults
unfoldable pub report_of : List ℕ → ShaderModel
report_of code = record { uniforms = uniforms_of code; samples = samples_of code; address_words = address_words_of code; threaded = is_threaded code }

-- the contents of buffer b
unfoldable pub content_of : FileModel → ℕ → List ℕ
content_of f b = slice_index_or f.contents b []

-- the shader in buffer b, None in a data buffer, and all by buffer
abbrev pub shader_for : Kind → List ℕ → Option ShaderModel
shader_for Plain content = None
shader_for Code content = Some (report_of (words_of content))

unfoldable pub shader_of : FileModel → ℕ → Option ShaderModel
shader_of f b = shader_for (buffer_at f.buffers b).kind (content_of f b)

unfoldable pub shaders_up_to : FileModel → ℕ → List (Option ShaderModel)
shaders_up_to f n = map (shader_of f) (range_with_len 0 n)

abbrev pub shaders_of : FileModel → List (Option ShaderModel)
shaders_of f = shaders_up_to f (length f.buffers)

-- What is kept of them is what is reported, one for each buffer, and each is sound.
pub record AreShadersIn (f : FileModel) (shaders : List (Option ShaderModel)) : Type 0 where
  pub report : shaders ≡ shaders_of f
  pub sound : AreShadersOf (table_of f) shaders
