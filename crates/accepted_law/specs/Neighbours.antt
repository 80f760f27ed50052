-- Clients of accepted files: no client's memory is another's to write, and neighbours are apart.
use Rattle.std.specs.Prelude.{◌≡◌, ◌<◌, ℕ, true, length, slice_index}
use Rattle.job_format.specs.Model.{FileModel}
use Rattle.job_check.specs.{Shaders.content_of, Emit.memory_of}
use Rattle.job_check.specs.Jobs.{job_of, bin_list_of, records_of, streams_of, render_list_of}
use Rattle.promises.specs.Apart.{jobs_of, AreNeighbourFiles, AlikeTo, AreApart, IsUnshared}
use Rattle.promises.specs.{Prepared.IsFaultless, Holdings.file_rights}

-- No byte that a client's jobs may reach may be written by another client's job.
abbrev pub ClientsUnshared : Type 0
ClientsUnshared = (c : ℕ) (f : FileModel) → IsFaultless f → IsUnshared (jobs_of c f) (file_rights f)

-- Job j has the same in both files: its lists are emitted alike, and the buffers that its handles name have the same contents.
pub record FilledAlike (f g : FileModel) (j : ℕ) : Type 0 where
  pub bin : bin_list_of f j ≡ bin_list_of g j
  pub records : records_of f j ≡ records_of g j
  pub streams : streams_of f j ≡ streams_of g j
  pub render : render_list_of f j ≡ render_list_of g j
  pub contents : (i : ℕ) → i < length (job_of f j).handles
      → content_of f (slice_index (job_of f j).handles i) ≡ content_of g (slice_index (job_of g j).handles i)

-- Where each job of the client has, the emitted memories are alike to it, if they are as long.
abbrev pub EmittedAlike : Type 0
EmittedAlike =
    (c : ℕ) (f g : FileModel) → IsFaultless f → IsFaultless g → AreNeighbourFiles c f g → f.mem_size ≡ g.mem_size
    → ((j : ℕ) → jobs_of c f j ≡ true → FilledAlike f g j) → AlikeTo c f g (memory_of f) (memory_of g)

-- Every two neighbours in which no rule is broken are apart.
abbrev pub AcceptedApart : Type 0
AcceptedApart = (c : ℕ) (f g : FileModel) → IsFaultless f → IsFaultless g → AreNeighbourFiles c f g → AreApart c f g
