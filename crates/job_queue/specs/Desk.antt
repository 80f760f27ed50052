-- What the code keeps, and when it stands for what a list of calls did.
use Rattle.std.specs.Prelude.{◌≡◌, ◌≤◌, ◌<◌, ℕ, ◌+◌, ◌%◌, List, [], ◌∷◌, length, slice_index, slice_set, max}
use Rattle.job_queue.specs.Past.{Past, last_before, last_writer}

-- For each buffer its last writer's number, or 0. For each job that hasn't rendered, at its number less one modulo 4,096, the last
-- job before it that writes what it reads.
pub record Desk : Type 0 where
  pub writers : List ℕ
  pub waits : List ℕ
  pub submitted : ℕ
  pub started : ℕ
  pub binned : ℕ
  pub rendered : ℕ

pub record IsSound (waits : List ℕ) (submitted started binned rendered : ℕ) : Type 0 where
  pub size : length waits ≡ 4096
  pub rendered_first : rendered ≤ binned
  pub binned_first : binned ≤ started
  pub one_binning : started ≤ binned + 1
  pub started_first : started ≤ submitted
  pub few : submitted ≤ rendered + 4096

pub record Agrees (past : Past) (desk : Desk) : Type 0 where
  pub buffers : length desk.writers ≡ past.buffers
  pub submitted : desk.submitted ≡ length past.jobs
  pub started : desk.started ≡ past.started
  pub binned : desk.binned ≡ past.binned
  pub rendered : desk.rendered ≡ past.rendered
  pub writers : (buffer : ℕ) → buffer < past.buffers → slice_index desk.writers buffer ≡ last_before (buffer ∷ []) (length past.jobs + 1) past.jobs 1 0
  pub waits : (job : ℕ) → desk.rendered ≤ job → job < length past.jobs → slice_index desk.waits (job % 4096) ≡ last_writer past.jobs (job + 1)

-- A call's answer is that of the past, whatever past the queue stands for, and the queue then stands for the past with this call.
abbrev pub Answers : {A : Type 0} → (Past → A) → (Past → Past) → A → Desk → Desk → Type 0
Answers answer after result old new = (past : Past) → Agrees past old → (result ≡ answer past) × Agrees (after past) new

-- the greatest of what is kept for these buffers and of what was found before
unfoldable pub greatest : List ℕ → ℕ → List ℕ → ℕ
greatest writers found [] = found
greatest writers found (buffer ∷ buffers) = greatest writers (max found (slice_index writers buffer)) buffers

-- the job is kept for each of these buffers
unfoldable pub writers_after : List ℕ → List ℕ → ℕ → List ℕ
writers_after writers [] job = writers
writers_after writers (buffer ∷ buffers) job = writers_after (slice_set writers buffer job) buffers job
