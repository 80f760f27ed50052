-- A job in view: a file in whose memory table no rule is broken, what is reported of its shaders, and one of its jobs, each of whose handles names a
-- buffer of the job's client, and whose lists begin in the lists' region or where it ends.
use Rattle.std.specs.Prelude.{◌≡◌, ℕ, ◌<◌, ◌≤◌, List, length, Option}
use Rattle.buffer_table.specs.{Table.TableModel, Handles.AreNumbersOf, Sound.IsSound}
use Rattle.job_format.specs.{File.IsWellFormed, File.IsJobWellFormed, Model.FileModel, Model.JobModel}
use Rattle.relocation.specs.{declared.layout.Layout.Layout, declared.layout.Lengths.Lengths, Layout.region_end}
use Rattle.qpu_isa.specs.Shader.{ShaderModel}
use Rattle.shader_records.specs.Inputs.{AreShaped}
use Rattle.job_check.specs.{Shaders.table_of, Shaders.shaders_of, Emit.lengths_of}
use Rattle.job_check.specs.Jobs.{job_of, lists_begin, layout_of, bin_list_of, records_of, streams_of, render_list_of}

-- what contracts see: the file, the job's number, and what is reported of the shaders
pub record InView : Type 0 where
  pub file : FileModel
  pub number : ℕ
  pub shaders : List (Option ShaderModel)

abbrev pub in_view : FileModel → ℕ → List (Option ShaderModel) → InView
in_view f j shaders = record { file = f; number = j; shaders = shaders }

-- What is reported of the shaders is true.
abbrev pub IsReported : InView → Type 0
IsReported v = v.shaders ≡ shaders_of v.file

-- its entry, where its lists go, and the lists that the hardware is given, with how many bytes they are
abbrev pub job_in : InView → JobModel
job_in v = job_of v.file v.number

abbrev pub layout_in : InView → Layout
layout_in v = layout_of v.file v.number

abbrev pub bin_list_in : InView → List ℕ
bin_list_in v = bin_list_of v.file v.number

abbrev pub records_in : InView → List ℕ
records_in v = records_of v.file v.number

abbrev pub streams_in : InView → List ℕ
streams_in v = streams_of v.file v.number

abbrev pub render_list_in : InView → List ℕ
render_list_in v = render_list_of v.file v.number

abbrev pub lengths_in : InView → Lengths
lengths_in v = lengths_of v.file v.number

-- What the check keeps of a job in view is what the file says.
pub record IsContext (v : InView) (job : JobModel) (table : TableModel) (shaders : List (Option ShaderModel)) (handles : List ℕ) (layout : Layout) : Type 0 where
  pub well_formed : IsWellFormed v.file
  pub inside : v.number < length v.file.jobs
  pub job_is : job ≡ job_of v.file v.number
  pub limits : IsJobWellFormed job
  pub table_is : table ≡ table_of v.file
  pub shaders_are : shaders ≡ v.shaders
  pub shaped : AreShaped (table_of v.file) shaders
  pub sound : IsSound v.file.mem_size v.file.regions v.file.buffers
  pub handles_are : handles ≡ job.handles
  pub numbers : AreNumbersOf table handles
  pub begins : lists_begin v.file v.number ≤ region_end v.file.regions
  pub layout_is : layout ≡ layout_of v.file v.number
