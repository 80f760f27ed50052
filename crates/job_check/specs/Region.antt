-- The lists of all jobs of a file as one stretch of bytes, from where the lists of job 0 begin to where those of the last job end: zeros,
-- but for the lists. Where the file is accepted, this is what the memory holds there.
use Rattle.std.specs.Prelude.{◌≡◌, ℕ, zero, suc, ◌+◌, ◌-◌, ◌≤◌, List, [], ◌++◌, length, Option, Some, None}
use Rattle.std.specs.List.{AllByRecursion}
use Rattle.field_words.specs.{Questions.first_of, Writes.Part, Writes.memory_emitted}
use Rattle.job_format.specs.Model.{FileModel}
use Rattle.qpu_isa.specs.Shader.{ShaderModel}
use Rattle.relocation.specs.Layout.{region_end}
use Rattle.job_check.specs.{declared.region.Region.Region, Shaders.AreShadersIn, Faults.shaders_stage}
use Rattle.job_check.specs.{Jobs.layout_of, Jobs.end_of, Jobs.layouts_of, Emit.all_lengths_of}
use Rattle.job_check.specs.Emit.{PartsFit, IsInside, list_parts, parts_moved}

-- how many bytes the lists of the first n jobs take, with what lies between them
unfoldable pub region_size : FileModel → ℕ → ℕ
region_size f zero = 0
region_size f (suc j) = end_of (layout_of f j) - f.regions.lists_place

-- where in the region the lists of job j begin
abbrev pub region_from : FileModel → ℕ → ℕ
region_from f j = (layout_of f j).place - f.regions.lists_place

-- the lists of job j there, and those of the first n jobs
unfoldable pub region_parts : FileModel → ℕ → List Part
region_parts f j = parts_moved (region_from f j) (list_parts f j)

unfoldable pub regions_parts : FileModel → ℕ → List Part
regions_parts f zero = []
regions_parts f (suc n) = regions_parts f n ++ region_parts f n

unfoldable pub region_of : FileModel → List ℕ
region_of f = memory_emitted (region_size f (length f.jobs)) (regions_parts f (length f.jobs))

-- What an accepted file's lists come to: their bytes, and by job where the lists lie and how many bytes of each were emitted; all lists
-- lie in the lists' region.
pub record IsRegion (f : FileModel) (region : Region) : Type 0 where
  pub bytes_are : region.bytes.items ≡ region_of f
  pub layouts_are : region.layouts.items ≡ layouts_of f
  pub lengths_are : region.lengths.items ≡ all_lengths_of f
  pub fits : f.regions.lists_place + length (region_of f) ≤ region_end f.regions
  pub parts_fit : PartsFit (region_size f (length f.jobs)) (regions_parts f (length f.jobs))
  pub each_job : AllByRecursion (IsInside (region_end f.regions)) region.layouts.items

-- Whatever is reported of the shaders: the region has as many bytes as its lists take, and each job its layout and its lengths.
pub record IsLaid (f : FileModel) (region : Region) : Type 0 where
  pub size : length region.bytes.items ≡ region_size f (length f.jobs)
  pub layouts_are : region.layouts.items ≡ layouts_of f
  pub count : length region.lengths.items ≡ length f.jobs
  pub fits : f.regions.lists_place + region_size f (length f.jobs) ≤ region_end f.regions

-- Shaders that were checked before: no rule is broken by any, and what is kept of them is what is reported.
pub record AreChecked (f : FileModel) (shaders : List (Option ShaderModel)) : Type 0 where
  pub none : first_of (shaders_stage f) ≡ None
  pub are : AreShadersIn f shaders

-- P, where what was reported before holds, or where nothing was
abbrev pub Under : {X : Type 0} → Option X → (X → Type 0) → Type 0 → Type 0
Under None Holds P = P
Under (Some report) Holds P = Holds report → P
