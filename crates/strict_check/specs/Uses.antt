-- What the shaders of a file use that not each kind of program may.
use Rattle.std.specs.Prelude.{ℕ, false, List, Option, Some, None}
use Rattle.buffer_table.specs.{declared.buffer.Kind.Kind, declared.buffer.Kind.TheVariants.Plain, declared.buffer.Kind.TheVariants.Code}
use Rattle.buffer_table.specs.{Table.buffer_at, Handles.code_of}
use Rattle.job_format.specs.Model.{FileModel}
use Rattle.job_check.specs.{Jobs.job_of, Shaders.table_of, Shaders.words_of, Shaders.content_of}
use Rattle.strict_rules.specs.Rules.{has_vpm_part, has_tile_part}
use Rattle.strict_check.specs.declared.uses.Uses.{Uses}

-- a shader's, and nothing
unfoldable pub uses_of : List ℕ → Uses
uses_of code = record { vpm = has_vpm_part code; tile = has_tile_part code }

abbrev pub uses_nothing : Uses
uses_nothing = record { vpm = false; tile = false }

-- those of buffer b, nothing of a data buffer
abbrev pub uses_in : Kind → List ℕ → Uses
uses_in Plain content = uses_nothing
uses_in Code content = uses_of (words_of content)

unfoldable pub uses_at : FileModel → ℕ → Uses
uses_at f b = uses_in (buffer_at f.buffers b).kind (content_of f b)

-- those of the shader in the Code buffer that a handle of job j names
abbrev pub uses_behind : FileModel → Option ℕ → Uses
uses_behind f None = uses_nothing
uses_behind f (Some number) = uses_at f number

unfoldable pub uses_named : FileModel → (j handle : ℕ) → Uses
uses_named f j handle = uses_behind f (code_of (table_of f) (job_of f j).handles handle)
