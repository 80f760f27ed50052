-- The whole: from what each job of an accepted file begins with to every run of the machine.
use Rattle.std.specs.Prelude.{◌≡◌, ℕ, List, None}
use Rattle.field_words.specs.Questions.{first_of}
use Rattle.machine_plan.specs.Regions.{Agree}
use Rattle.machine.specs.State.{units_start}
use Rattle.job_format.specs.{File.IsWellFormed, File.Fits, Model.FileModel}
use Rattle.job_check.specs.{Emit.memory_of, Faults.place_stages}
use Rattle.promises.specs.Holdings.{plain_of, fixed_of, file_rights, file_starts}
use Rattle.promises.specs.Sound.{Sound}

-- The jobs of an accepted file are sound from each memory of the emitted one's length that has the emitted lists of all jobs, and the Code
-- buffers that their handles name, as the emitted one: whatever all its other bytes are, inside what jobs may reach and outside.
abbrev pub FilesSound : Type 0
FilesSound =
    (f : FileModel) → IsWellFormed f → Fits f → first_of (place_stages f) ≡ None
    → (m : List ℕ) → Agree (fixed_of f) (memory_of f) m
    → Sound (file_rights f) (plain_of f) m (units_start (file_starts f))
