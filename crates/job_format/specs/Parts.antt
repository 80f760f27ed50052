-- A job file whose contents and lists are slices, without where it lies in memory.
use Rattle.std.specs.Prelude.{ℕ, List, map}
use Rattle.job_format.specs.{declared.parts.Numbers.Numbers, declared.parts.JobParts.JobParts, declared.parts.FileParts.FileParts}
use Rattle.job_format.specs.declared.parts.Numbers.TheVariants.{Lent, Own}
use Rattle.job_format.specs.Model.{JobModel, FileModel}

abbrev pub numbers_in : Numbers → List ℕ
numbers_in (Lent numbers) = numbers.now
numbers_in (Own numbers) = numbers.items

abbrev pub job_parts_view : JobParts → JobModel
job_parts_view j = record { client = j.client; handles = numbers_in j.handles; bin = j.bin.now; records = j.records.now; declared = j.declared; uniforms = j.uniforms.now; frame = j.frame }

abbrev pub parts_view : FileParts → FileModel
parts_view f = record { version = f.version; mem_size = f.mem_size; regions = f.regions; buffers = f.buffers.items; contents = map (λ c. c.now) f.contents.items; jobs = map job_parts_view f.jobs.items }
