-- What a memory has that is prepared for the jobs of a file.
use Rattle.std.specs.Prelude.{ℕ, List}
use Rattle.job_format.specs.Model.{FileModel}
use Rattle.job_check.specs.Emit.{memory_of}
use Rattle.machine_plan.specs.Regions.{Agree}
use Rattle.promises.specs.{Prepared.IsPrepared, Prepared.IsFaultless, Holdings.fixed_of}

-- Where no rule of the file is broken, it has lists and code as the emitted one.
abbrev pub PreparedMemoriesAgree : Type 0
PreparedMemoriesAgree = (f : FileModel) → IsFaultless f → (m : List ℕ) → IsPrepared f m → Agree (fixed_of f) (memory_of f) m
