-- The rule of the queue: binning of a job starts only after each earlier writer of a buffer that it reads has rendered.
use Rattle.std.specs.Prelude.{◌≡◌, ◌≤◌, ◌<◌, ℕ, true, Ok}
use Rattle.job_queue.specs.Past.{Past, meet, reads_of, writes_of, start_answer}

-- an earlier job that writes what a job reads
pub record IsBefore (past : Past) (writer job : ℕ) : Type 0 where
  pub counts : 1 ≤ writer
  pub earlier : writer < job
  pub meets : meet (reads_of past.jobs job) (writes_of past.jobs writer) ≡ true

-- where a job is started, each such job has rendered
abbrev pub StartsLate : Type 0
StartsLate = (past : Past) (job : ℕ) → start_answer past ≡ Ok job → (writer : ℕ) → IsBefore past writer job → writer ≤ past.rendered
