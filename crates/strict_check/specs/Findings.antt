-- What is found of the shaders of a file before any job is asked: the first of E1 to E7 that a shader breaks, if any, and what it uses.
use Rattle.std.specs.Prelude.{ℕ, List, length, map, None}
use Rattle.std.specs.List.{range_with_len}
use Rattle.field_words.specs.Questions.{first_of}
use Rattle.buffer_table.specs.Table.{buffer_at}
use Rattle.job_format.specs.Model.{FileModel}
use Rattle.job_check.specs.Shaders.{content_of}
use Rattle.strict_rules.specs.Rules.{strict_questions}
use Rattle.strict_check.specs.declared.findings.Findings.{Findings}
use Rattle.strict_check.specs.{Uses.uses_of, Uses.uses_nothing, Uses.uses_at, Stages.code_questions_in}

unfoldable pub findings_of : List ℕ → Findings
findings_of code = record { fault = first_of (strict_questions code); uses = uses_of code }

abbrev pub findings_nothing : Findings
findings_nothing = record { fault = None; uses = uses_nothing }

-- of the shader in buffer b, nothing of a data buffer; and all by buffer
unfoldable pub findings_at : FileModel → ℕ → Findings
findings_at f b = record { fault = first_of (code_questions_in (buffer_at f.buffers b).kind (content_of f b)); uses = uses_at f b }

unfoldable pub findings_up_to : FileModel → ℕ → List Findings
findings_up_to f n = map (findings_at f) (range_with_len 0 n)

abbrev pub all_findings : FileModel → List Findings
all_findings f = findings_up_to f (length f.buffers)
