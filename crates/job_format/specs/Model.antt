-- A job file without where it lies in memory.
use Rattle.std.specs.Prelude.{ℕ, List, map}
use Rattle.buffer_table.specs.{declared.buffer.Buffer.Buffer, declared.buffer.Regions.Regions}
use Rattle.job_format.specs.{declared.file.Frame.Frame, declared.file.Job.Job, declared.file.JobFile.JobFile}

pub record JobModel : Type 0 where
  pub client : ℕ
  pub handles : List ℕ
  pub bin : List ℕ
  pub records : List ℕ
  pub declared : ℕ
  pub uniforms : List ℕ
  pub frame : Frame

pub record FileModel : Type 0 where
  pub version : ℕ
  pub mem_size : ℕ
  pub regions : Regions
  pub buffers : List Buffer
  pub contents : List (List ℕ)
  pub jobs : List JobModel

abbrev pub job_view : Job → JobModel
job_view j = record { client = j.client; handles = j.handles.items; bin = j.bin.items; records = j.records.items; declared = j.declared; uniforms = j.uniforms.items; frame = j.frame }

abbrev pub file_view : JobFile → FileModel
file_view f = record { version = f.version; mem_size = f.mem_size; regions = f.regions; buffers = f.buffers.items; contents = map (λ c. c.items) f.contents.items; jobs = map job_view f.jobs.items }
