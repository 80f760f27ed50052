-- The header and the parts of a file that the first format rules leave inside it.
use Rattle.std.specs.Prelude.{◌≡◌, ℕ, ◌≤◌, ◌<◌, List, length}
use Rattle.job_format.specs.Offsets.{header_size, most_buffers, most_handles, most_jobs, buffer_count, job_count, job_offset, job_word, handles_offset}

-- the bytes have a whole header, and it names this many buffers and jobs, no more than a file may have
pub record HasHeader (bytes : List ℕ) (buffers jobs : ℕ) : Type 0 where
  pub whole : header_size ≤ length bytes
  pub buffers_named : buffers ≡ buffer_count bytes
  pub jobs_named : jobs ≡ job_count bytes
  pub few_buffers : buffers ≤ most_buffers
  pub few_jobs : jobs ≤ most_jobs

-- it has a header, and the entries and parts of all its jobs are whole
pub record HasParts (bytes : List ℕ) (buffers jobs : ℕ) : Type 0 where
  pub header : HasHeader bytes buffers jobs
  pub entries : job_offset bytes jobs ≤ length bytes
  pub handles : (j : ℕ) → j < jobs → job_word bytes j 8 ≤ most_handles
  pub end : handles_offset bytes jobs ≤ length bytes
