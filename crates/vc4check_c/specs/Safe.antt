-- What an accepted submission promises, in terms of what the call was given, of the bytes that it wrote into the window and of its answer.
-- Nothing here speaks of rules, of job files or of how lists are made: it is of the machine, of stretches of memory, and of the C structs.
use Rattle.std.specs.Prelude.{◌≡◌, ℕ, zero, suc, ◌<◌, ◌+◌, ◌-◌, ◌==◌, Bool, true, false, List, [], ◌∷◌, ◌++◌, length, take, drop, slice_get, slice_index_or, Option, Some, None, if◌then◌else◌}
use Rattle.field_words.specs.{Sizes.slot_size, Writes.zeros}
use Rattle.machine_plan.specs.Regions.{Interval, Rights}
use Rattle.machine.specs.{declared.job.Start.Start, State.units_start}
use Rattle.promises.specs.{Sound.Sound, Holdings.plain_of, Holdings.codes_of, Holdings.of_jobs}
use Rattle.vc4check_c.specs.{declared.jobs.JobLists.JobLists, declared.submission.GivenBuffer.GivenBuffer, declared.submission.Submission.Submission}
use Rattle.job_format.specs.Model.{FileModel}
use Rattle.buffer_table.specs.{Table.buffer_at, Handles.code_of}
use Rattle.job_check.specs.{Shaders.table_of, Shaders.content_of, Jobs.job_of}
use Rattle.vc4check_c.specs.{declared.submit.Verdict.Verdict, declared.jobs.JobsAnswer.JobsAnswer, Jobs.no_lists}

-- so many bytes of a memory from an address on; and the stretch that they are
abbrev pub bytes_at : List ℕ → (address size : ℕ) → List ℕ
bytes_at m address size = take size (drop address m)

abbrev pub bytes_from : ℕ → ℕ → Interval
bytes_from address size = record { place = address; size = size }

-- The buffers with shaders have kind 1, all others are data buffers.
abbrev pub is_code : GivenBuffer → Bool
is_code buffer = buffer.kind == 1

-- the addresses of a buffer that a handle names, where it is a code buffer, or where it isn't
unfoldable pub where_code : Bool → Option GivenBuffer → List Interval
where_code code None = []
where_code true (Some buffer) = if is_code buffer then bytes_from buffer.address buffer.size ∷ [] else []
where_code false (Some buffer) = if is_code buffer then [] else bytes_from buffer.address buffer.size ∷ []

-- those of the code buffers that handles name, or of the data buffers, handle by handle
unfoldable pub intervals_named : Bool → List GivenBuffer → (handles : List ℕ) → List Interval
intervals_named code buffers [] = []
intervals_named code buffers (handle ∷ handles) = where_code code (slice_get buffers handle) ++ intervals_named code buffers handles

abbrev pub data_buffers : Submission → List Interval
data_buffers s = intervals_named false s.buffers.now s.handles.now

abbrev pub code_buffers : Submission → List Interval
code_buffers s = intervals_named true s.buffers.now s.handles.now

-- the tile slot and the four lists, as the answer tells them
abbrev pub slot_of : JobLists → Interval
slot_of lists = bytes_from lists.slot slot_size

abbrev pub lists_of : JobLists → List Interval
lists_of lists =
    bytes_from (lists.lists + lists.bin) lists.bin_length
    ∷ (bytes_from (lists.lists + lists.records) lists.records_length
    ∷ (bytes_from (lists.lists + lists.uniforms) lists.uniforms_length
    ∷ (bytes_from (lists.lists + lists.render) lists.render_length ∷ [])))

-- A job may reach its tile slot, its data buffers, its lists and its code; it may write the slot and the data buffers.
abbrev pub rights_from : Interval → (plain lists code : List Interval) → Rights
rights_from slot plain lists code = record { region = slot ∷ (plain ++ (lists ++ code)); writable = slot ∷ plain }

abbrev pub rights_of : Submission → JobLists → Rights
rights_of s lists = rights_from (slot_of lists) (data_buffers s) (lists_of lists) (code_buffers s)

-- Binner and renderer begin at these two lists.
abbrev pub start_of : JobLists → Start
start_of lists = record {
  bin_place = lists.lists + lists.bin;
  bin_len = lists.bin_length;
  render_place = lists.lists + lists.render;
  render_len = lists.render_length;
}

-- The memory has a shader at a buffer's address, with zeros behind it up to the buffer's end.
abbrev pub HasShader : List ℕ → (address size : ℕ) → (shader : List ℕ) → Type 0
HasShader m address size shader = bytes_at m address size ≡ shader ++ zeros (size - length shader)

-- A memory that ends where the submission says, in which the bytes of the window lie where the answer says, and each code buffer that a
-- handle names has its shader. All its other bytes may be anything.
pub record IsReady (s : Submission) (window : List ℕ) (answer : Verdict) (m : List ℕ) : Type 0 where
  pub long : length m ≡ s.end
  pub lists : bytes_at m answer.lists.lists answer.size ≡ take answer.size window
  pub code : (i handle : ℕ) (buffer : GivenBuffer) → slice_get s.handles.now i ≡ Some handle → slice_get s.buffers.now handle ≡ Some buffer
      → is_code buffer ≡ true → HasShader m buffer.address buffer.size buffer.content.now

-- The job of the submission is the machine's job 0, and it has no other.
unfoldable pub data_of_job : Submission → ℕ → List Interval
data_of_job s zero = data_buffers s
data_of_job s (suc j) = []

-- From each such memory, with binner and renderer at the beginnings of the lists, the job is sound: in every run of the machine, whichever
-- unit steps and whatever values it leaves open, no step is undefined, each access lies in what the job may reach, each write in what it may
-- write, and each read of a texture unit in one data buffer; lists and code stay as they were; bytes outside have no effect; all this also
-- while others write anything but what the job may only read.
abbrev pub IsSafeToRun : Submission → (window : List ℕ) → Verdict → Type 0
IsSafeToRun s window answer =
    (m : List ℕ) → IsReady s window answer m
    → Sound (rights_of s answer.lists ∷ []) (data_of_job s) m (units_start (start_of answer.lists ∷ []))

-- All jobs of a job file are safe to run: what the answer tells of job j,
abbrev pub report_of : JobsAnswer → ℕ → JobLists
report_of answer j = slice_index_or answer.lists j no_lists

-- what the job may reach, whose data and code buffers are those of the file that its handles name,
abbrev pub rights_of_job : FileModel → JobsAnswer → ℕ → Rights
rights_of_job f answer j = rights_from (slot_of (report_of answer j)) (plain_of f j) (lists_of (report_of answer j)) (codes_of f j)

-- a memory that has the window's bytes from the place on at which the lists of job 0 begin, and in each code buffer that a handle names its
-- shader,
pub record AreReady (f : FileModel) (window : List ℕ) (answer : JobsAnswer) (m : List ℕ) : Type 0 where
  pub long : length m ≡ f.mem_size
  pub lists : bytes_at m (report_of answer 0).lists answer.size ≡ take answer.size window
  pub code : (j handle number : ℕ) → j < length f.jobs → code_of (table_of f) (job_of f j).handles handle ≡ Some number
      → HasShader m (buffer_at f.buffers number).place (buffer_at f.buffers number).size (content_of f number)

-- and that the jobs are sound from each such memory, together.
abbrev pub AreSafeToRun : FileModel → (window : List ℕ) → JobsAnswer → Type 0
AreSafeToRun f window answer =
    (m : List ℕ) → AreReady f window answer m
    → Sound (of_jobs f (rights_of_job f answer)) (plain_of f) m (units_start (of_jobs f (λ j. start_of (report_of answer j))))
