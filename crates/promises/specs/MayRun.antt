-- What is so of the jobs of all bytes in which no rule is broken: from just the memory that their file is emitted as, and from every other of
-- its length that has the lists and the code of all jobs as it has them, every run of the machine is safe, each access in what its own job
-- may reach, whatever others write meanwhile beside lists and code; and bytes outside what jobs may reach have no effect.
--
-- `refusal_of` (job_check, specs/Whole) is the first rule that the bytes break. No rule need be read, since that none is broken is a premise.
-- `file_at` (job_format, specs/Reading) is the file that they hold, and `IsFileOf` (specs/File) says that they are its text. `memory_of`
-- (job_check, specs/Emit) is the memory that it is emitted as, with the lists where and as long as `check` prints it.
use Rattle.std.specs.Prelude.{◌≡◌, ℕ, List, None}
use Rattle.field_words.specs.Words.{IsBytes}
use Rattle.job_format.specs.{File.IsFileOf, Reading.file_at}
use Rattle.job_check.specs.{Emit.memory_of, Whole.refusal_of}
use Rattle.machine_plan.specs.Regions.{Agree}
use Rattle.promises.specs.Holdings.{OfEachJob, plain_of, lists_of, fixed_of, file_rights, file_starts, IsNamedCode}
use Rattle.promises.specs.{Rights.IsOneOf, Rights.IsFixed, Sound.AreSound}

-- No rule is broken by the bytes, and they are one file's. From each memory of the emitted one's length that has the lists and the code of
-- all jobs as emitted, whatever all other bytes are, the jobs are sound. What any job may write shares no byte with the lists of any job,
-- and none with the code that one names.
pub record MayRun (bytes : List ℕ) : Type 0 where
  pub none : refusal_of bytes ≡ None
  pub spells : IsFileOf bytes (file_at bytes)
  pub sound : (m : List ℕ) → Agree (fixed_of (file_at bytes)) (memory_of (file_at bytes)) m
      → AreSound (file_rights (file_at bytes)) (plain_of (file_at bytes)) m (file_starts (file_at bytes))
  pub lists_fixed : OfEachJob (file_at bytes) (λ j. (place size : ℕ) → IsOneOf (lists_of (file_at bytes) j) place size
      → IsFixed (file_rights (file_at bytes)) place size)
  pub code_fixed : OfEachJob (file_at bytes) (λ j. (place size : ℕ) → IsNamedCode (file_at bytes) j place size
      → IsFixed (file_rights (file_at bytes)) place size)

-- Whatever bytes they are: where no rule is broken by them, their jobs may run.
abbrev pub AcceptedMayRun : Type 0
AcceptedMayRun = (bytes : List ℕ) → IsBytes bytes → refusal_of bytes ≡ None → MayRun bytes
