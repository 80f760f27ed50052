-- The jobs: the one that is alone, the two that share a machine, and the first of these on that machine without the second.
use Rattle.std.proofs.Common.{ℕ, List, [], ◌∷◌, ◌++◌, Option, Some, None}
use Rattle.job_format.specs.Model.{FileModel}
use Rattle.job_check.specs.Shaders.{table_of}
use Rattle.qpu_isa.specs.Shader.{ShaderModel}
use Rattle.shader_records.specs.Inputs.{InputModel}
use Rattle.textured_job.specs.Job.{fragment_report, vertex_report, records, uniforms, textured_file, two_clients, one_client}

pub data Case : Type 0 where
  Alone : Case
  First : Case
  Second : Case
  Single : Case

-- its file, its number there, and its handles
abbrev pub file_in : Case → FileModel
file_in Alone = textured_file
file_in First = two_clients
file_in Second = two_clients
file_in Single = one_client

abbrev pub number_in : Case → ℕ
number_in Alone = 0
number_in First = 0
number_in Second = 1
number_in Single = 0

abbrev pub handles_in : Case → List ℕ
handles_in Alone = 0 ∷ 1 ∷ 2 ∷ 3 ∷ []
handles_in First = 0 ∷ 1 ∷ 2 ∷ 3 ∷ []
handles_in Second = 4 ∷ 5 ∷ 6 ∷ 7 ∷ []
handles_in Single = 0 ∷ 1 ∷ 2 ∷ 3 ∷ []

-- what is reported of a client's shaders, and of all in the file
abbrev pub report : List (Option ShaderModel)
report = Some fragment_report ∷ Some vertex_report ∷ None ∷ None ∷ []

abbrev pub report_in : Case → List (Option ShaderModel)
report_in Alone = report
report_in First = report ++ report
report_in Second = report ++ report
report_in Single = report

-- what its records are checked with
abbrev pub input_in : Case → InputModel
input_in c = record {
  states = record { word = 1; max_index = 2 } ∷ [];
  records = records;
  uniforms = uniforms;
  table = table_of (file_in c);
  handles = handles_in c;
  shaders = report_in c;
}
