-- What a list of answered calls did: every job that was submitted, and how many of them were started, binned and rendered.
use Rattle.std.specs.Prelude.{ℕ, ◌+◌, ◌-◌, ◌==◌, Bool, false, ◌||◌, nat_le, nat_lt, List, [], ◌∷◌, ◌++◌, length, Option, Some, None, Result, Ok, Err, if◌then◌else◌}
use Rattle.job_queue.specs.declared.queue.QueueFault.TheVariants.{Unknown, Full, Binning, NoJob, Waits, NotBinning, NotBinned}
use Rattle.job_queue.specs.declared.queue.QueueFault.{QueueFault}

pub record Job : Type 0 where
  pub reads : List ℕ
  pub writes : List ℕ

-- Jobs are started, binned and rendered in order, so a number says which: those up to it.
pub record Past : Type 0 where
  pub buffers : ℕ
  pub jobs : List Job
  pub started : ℕ
  pub binned : ℕ
  pub rendered : ℕ

abbrev pub none_yet : ℕ → Past
none_yet buffers = record { buffers = buffers; jobs = []; started = 0; binned = 0; rendered = 0 }

unfoldable pub is_in : ℕ → List ℕ → Bool
is_in buffer [] = false
is_in buffer (other ∷ others) = (other == buffer) || is_in buffer others

-- a buffer is in both
unfoldable pub meet : List ℕ → List ℕ → Bool
meet [] writes = false
meet (buffer ∷ reads) writes = is_in buffer writes || meet reads writes

-- the last of the first n jobs, that are numbered from a number on, that writes what is read; or what was found before
unfoldable pub last_before : List ℕ → ℕ → List Job → ℕ → ℕ → ℕ
last_before reads n [] number found = found
last_before reads n (job ∷ jobs) number found =
    if nat_lt number n then last_before reads n jobs (number + 1) (if meet reads job.writes then number else found) else found

-- what a job reads, by its number
unfoldable pub reads_of : List Job → ℕ → List ℕ
reads_of [] number = []
reads_of (job ∷ jobs) number = if number == 1 then job.reads else reads_of jobs (number - 1)

-- what a job writes, by its number
unfoldable pub writes_of : List Job → ℕ → List ℕ
writes_of [] number = []
writes_of (job ∷ jobs) number = if number == 1 then job.writes else writes_of jobs (number - 1)

-- the last job before this one that writes a buffer which it reads; 0 where there is none
unfoldable pub last_writer : List Job → ℕ → ℕ
last_writer jobs number = last_before (reads_of jobs number) number jobs 1 0

-- the first number that is no buffer's
unfoldable pub first_unknown : ℕ → List ℕ → Option ℕ
first_unknown buffers [] = None
first_unknown buffers (buffer ∷ others) = if nat_lt buffer buffers then first_unknown buffers others else Some buffer

abbrev pub submit_by : Past → Option ℕ → Result ℕ QueueFault
submit_by past (Some buffer) = Err (Unknown buffer)
submit_by past None = if nat_le (past.rendered + 4096) (length past.jobs) then Err Full else Ok (length past.jobs + 1)

unfoldable pub submit_answer : Past → List ℕ → List ℕ → Result ℕ QueueFault
submit_answer past reads writes = submit_by past (first_unknown past.buffers (reads ++ writes))

-- binning of the next job waits for an earlier writer
unfoldable pub start_answer : Past → Result ℕ QueueFault
start_answer past =
    if nat_lt past.binned past.started then Err (Binning past.started)
    else (if past.started == length past.jobs then Err NoJob
    else (if nat_lt past.rendered (last_writer past.jobs (past.started + 1)) then Err (Waits (last_writer past.jobs (past.started + 1))) else Ok (past.started + 1)))

unfoldable pub bin_answer : Past → Result ℕ QueueFault
bin_answer past = if past.started == past.binned then Err NotBinning else Ok past.started

unfoldable pub render_answer : Past → Result ℕ QueueFault
render_answer past = if past.rendered == past.binned then Err NotBinned else Ok (past.rendered + 1)

-- what an answer leaves: a fault leaves all as it is
abbrev pub past_by : (ℕ → Past) → Past → Result ℕ QueueFault → Past
past_by next past (Err fault) = past
past_by next past (Ok number) = next number

unfoldable pub after_submit : Past → List ℕ → List ℕ → Past
after_submit past reads writes =
    past_by (λ number. record past { jobs = past.jobs ++ record { reads = reads; writes = writes } ∷ [] }) past (submit_answer past reads writes)

unfoldable pub after_start : Past → Past
after_start past = past_by (λ number. record past { started = number }) past (start_answer past)

unfoldable pub after_bin : Past → Past
after_bin past = past_by (λ number. record past { binned = number }) past (bin_answer past)

unfoldable pub after_render : Past → Past
after_render past = past_by (λ number. record past { rendered = number }) past (render_answer past)
