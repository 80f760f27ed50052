-- What `check` promises of a file that it accepts, of 1 to 8 jobs: it prints the file's memory, and from just this memory, and from every
-- other of its length that has the lists and the code of all jobs as it has them, every run of the machine is safe, each access in what
-- its own job may reach, whatever others write meanwhile beside lists and code, and bytes outside what jobs may reach have no effect.
--
-- The second half of this, which speaks of bytes alone, is `MayRun` (promises, specs/MayRun). `file_at` (job_format, specs/Reading) is the
-- file that the bytes hold. `memory_of`, `layouts_of` and `all_lengths_of` (job_check, specs/Emit, Jobs) are the memory that it is emitted
-- as, and by job where its lists lie there and how long they are; `accepted_text` (dumper, specs/Text) prints these three.
use Rattle.std.specs.{Prelude.ℕ, Prelude.List, Prelude.Option, Io.KnownBytes.Appends}
use Rattle.job_format.specs.Reading.{file_at}
use Rattle.job_check.specs.{Emit.memory_of, Emit.all_lengths_of, Jobs.layouts_of}
use Rattle.dumper.specs.Text.{accepted_text}
use Rattle.promises.specs.MayRun.{MayRun}

-- The sink got just that memory, with where the lists of each job lie in it and how long they are; and the jobs may run.
pub record IsSafelyAccepted (bytes : List ℕ) (before now : Option (List ℕ)) : Type 0 where
  pub printed : Appends before now
      (accepted_text (file_at bytes).version (memory_of (file_at bytes)) (layouts_of (file_at bytes)) (all_lengths_of (file_at bytes)))
  pub may_run : MayRun bytes
