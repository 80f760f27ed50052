-- What is so of each file in which no rule is broken.
use Rattle.std.specs.Prelude.{◌≡◌, List, ℕ, None}
use Rattle.field_words.specs.{Words.IsBytes, Questions.first_of}
use Rattle.job_format.specs.{Model.FileModel, Reading.file_at, File.IsWellFormed, File.Fits}
use Rattle.job_check.specs.{Emit.memory_of, Whole.refusal_of, Faults.place_stages}
use Rattle.machine_plan.specs.Regions.{Agree}
use Rattle.accepted_law.specs.Held.{AreFixed}
use Rattle.promises.specs.Holdings.{OfEachJob, plain_of, fixed_of, file_rights, file_starts}
use Rattle.promises.specs.Sound.{AreSound}

-- From each memory of the emitted one's length that has the emitted lists of all jobs, and the Code buffers that their handles name, as
-- the emitted one, whatever all its other bytes are, the jobs are sound, each with its own rights and from the beginnings of its lists.
-- What any job may write has no byte of the lists and the code of any.
pub record IsSafeFile (f : FileModel) : Type 0 where
  pub sound : (m : List ℕ) → Agree (fixed_of f) (memory_of f) m
      → AreSound (file_rights f) (plain_of f) m (file_starts f)
  pub fixed : OfEachJob f (AreFixed f)

-- So it is of the file that any bytes hold in which no rule is broken.
abbrev pub BytesSafe : Type 0
BytesSafe = (bytes : List ℕ) → IsBytes bytes → refusal_of bytes ≡ None → IsSafeFile (file_at bytes)

-- So it is of each file in which no rule is broken whose places are a driver's, anywhere in the greatest memory.
abbrev pub PlacedJobsAreSafe : Type 0
PlacedJobsAreSafe = (f : FileModel) → IsWellFormed f → Fits f → first_of (place_stages f) ≡ None → IsSafeFile f
