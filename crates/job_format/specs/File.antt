-- When bytes are a job file: they are its text, its numbers fit their fields, and it is well formed.
use Rattle.std.specs.Prelude.{◌≡◌, ℕ, ◌%◌, ◌≤◌, ◌<◌, ◌^◌, List, length, map, Result, Ok, Err}
use Rattle.std.specs.List.{AllByRecursion}
use Rattle.field_words.specs.{Words.IsBytes, Sizes.most_list, Sizes.most_code, declared.stop.Stop.Stop}
use Rattle.field_words.specs.declared.stop.Stop.TheVariants.{Fault, NoMemory}
use Rattle.buffer_table.specs.{declared.buffer.Kind.Kind, declared.buffer.Kind.TheVariants.Plain, declared.buffer.Kind.TheVariants.Code}
use Rattle.buffer_table.specs.{declared.buffer.Buffer.Buffer, declared.buffer.Regions.Regions}
use Rattle.job_format.specs.{declared.rule.FormatFault.FormatFault, declared.file.Surface.Surface, declared.file.Frame.Frame}
use Rattle.job_format.specs.{Model.JobModel, Model.FileModel, Text.file_text}
use Rattle.job_format.specs.Offsets.{most_buffers, most_handles, most_jobs, most_first, most_states}

-- Each number fits the bytes that hold it.
pub record RegionsFit (r : Regions) : Type 0 where
  pub lists_place : r.lists_place < 2 ^ 32
  pub lists_size : r.lists_size < 2 ^ 32
  pub tile_place : r.tile_place < 2 ^ 32
  pub tile_slots : r.tile_slots < 2 ^ 32

pub record BufferFits (b : Buffer) : Type 0 where
  pub place : b.place < 2 ^ 32
  pub size : b.size < 2 ^ 32
  pub client : b.client < 2 ^ 32
  pub content : b.content < 2 ^ 32

pub record SurfaceFits (s : Surface) : Type 0 where
  pub hindex : s.hindex < 2 ^ 32
  pub offset : s.offset < 2 ^ 32
  pub bits : s.bits < 2 ^ 16
  pub flags : s.flags < 2 ^ 16

pub record FrameFits (f : Frame) : Type 0 where
  pub width : f.width < 2 ^ 16
  pub height : f.height < 2 ^ 16
  pub min_x : f.min_x < 256
  pub min_y : f.min_y < 256
  pub max_x : f.max_x < 256
  pub max_y : f.max_y < 256
  pub six : length f.surfaces ≡ 6
  pub surfaces : AllByRecursion SurfaceFits f.surfaces
  pub two : length f.clear_color ≡ 2
  pub clear_color : AllByRecursion (λ c. c < 2 ^ 32) f.clear_color
  pub clear_z : f.clear_z < 2 ^ 32
  pub clear_s : f.clear_s < 256

-- What the header, a job's entry and its parts hold.
pub record HeaderFits (f : FileModel) : Type 0 where
  pub version : f.version < 2 ^ 32
  pub mem_size : f.mem_size < 2 ^ 32
  pub regions : RegionsFit f.regions

pub record JobEntryFits (j : JobModel) : Type 0 where
  pub client : j.client < 2 ^ 32
  pub declared : j.declared < 2 ^ 32
  pub frame : FrameFits j.frame

pub record JobPartsFit (j : JobModel) : Type 0 where
  pub handles : AllByRecursion (λ h. h < 2 ^ 32) j.handles
  pub bin : IsBytes j.bin
  pub records : IsBytes j.records
  pub uniforms : IsBytes j.uniforms

-- All numbers of a job, and of a file.
pub record JobFits (j : JobModel) : Type 0 where
  pub client : j.client < 2 ^ 32
  pub handles : AllByRecursion (λ h. h < 2 ^ 32) j.handles
  pub bin : IsBytes j.bin
  pub records : IsBytes j.records
  pub declared : j.declared < 2 ^ 32
  pub uniforms : IsBytes j.uniforms
  pub frame : FrameFits j.frame

pub record Fits (f : FileModel) : Type 0 where
  pub version : f.version < 2 ^ 32
  pub mem_size : f.mem_size < 2 ^ 32
  pub regions : RegionsFit f.regions
  pub buffers : AllByRecursion BufferFits f.buffers
  pub contents : AllByRecursion IsBytes f.contents
  pub jobs : AllByRecursion JobFits f.jobs

-- a shader has at most 65,536 bytes
abbrev pub FitsShader : Kind → ℕ → Type 0
FitsShader Plain content = Unit {0}
FitsShader Code content = content ≤ most_code

pub record IsJobWellFormed (j : JobModel) : Type 0 where
  pub handles : length j.handles ≤ most_handles
  pub bin : length j.bin ≤ most_list
  pub records : length j.records ≤ most_list
  pub declared : j.declared ≤ most_states
  pub uniforms : length j.uniforms ≤ most_list
  pub whole_words : length j.uniforms % 4 ≡ 0

-- the narrower limits of version 1
pub record IsFirstVersion (f : FileModel) : Type 0 where
  pub buffers : length f.buffers ≤ most_first
  pub one_job : length f.jobs ≡ 1
  pub handles : AllByRecursion (λ j. length j.handles ≤ most_first) f.jobs

-- What a file that was read is, and what a file needs to be written: the version is 1 or 2 and its limits hold, in version 2 each job
-- has a tile slot where there are slots at all, and there is one list of contents per buffer, as long as its entry says.
pub record IsWellFormed (f : FileModel) : Type 0 where
  pub a_version : 1 ≤ f.version
  pub known : f.version ≤ 2
  pub first : f.version ≡ 1 → IsFirstVersion f
  pub slots : f.version ≡ 2 → 0 < f.regions.tile_slots → length f.jobs ≤ f.regions.tile_slots
  pub buffers : length f.buffers ≤ most_buffers
  pub code : AllByRecursion (λ b. FitsShader b.kind b.content) f.buffers
  pub contents : map length f.contents ≡ map (λ b. b.content) f.buffers
  pub some_job : 1 ≤ length f.jobs
  pub few_jobs : length f.jobs ≤ most_jobs
  pub jobs : AllByRecursion IsJobWellFormed f.jobs

-- a file as version 2
abbrev pub file_upgraded : FileModel → FileModel
file_upgraded f = record { version = 2; mem_size = f.mem_size; regions = f.regions; buffers = f.buffers; contents = f.contents; jobs = f.jobs }

-- The bytes are this file.
pub record IsFileOf (bytes : List ℕ) (f : FileModel) : Type 0 where
  pub fits : Fits f
  pub well_formed : IsWellFormed f
  pub text : bytes ≡ file_text f

-- What was answered is this file, as it is seen, unless memory ran out.
abbrev pub Reads : {X : Type 0} → (X → FileModel) → FileModel → Result X (Stop FormatFault) → Type 0
Reads view f (Ok file) = view file ≡ f
Reads view f (Err (Fault fault)) = ⊥
Reads view f (Err NoMemory) = Unit {0}
