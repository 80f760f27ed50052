-- The machine of an accepted job file.
use Rattle.std.specs.Prelude.{◌≡◌, ℕ, List, [], ◌∷◌}
use Rattle.job_format.specs.Model.{FileModel}
use Rattle.relocation.specs.{declared.layout.Layout.Layout, declared.layout.Lengths.Lengths}
use Rattle.job_check.specs.{declared.check.Checked.Checked, Emit.memory_of, Emit.all_lengths_of, Jobs.layouts_of}
use Rattle.machine.specs.{declared.job.Start.Start, State.State, State.start_of}
use Rattle.promises.specs.Holdings.{start_by, file_starts}
use Rattle.job_safety.specs.declared.accepting.Accepted.{Accepted}

-- the state in which the machine of an accepted file starts: over its emitted memory, at the beginnings of the lists of its jobs
unfoldable pub machine_of : FileModel → State
machine_of f = start_of (memory_of f) (file_starts f)

-- the beginnings of the lists of jobs, by where the lists of each lie and how long they are
unfoldable pub starts_by : List Layout → List Lengths → List Start
starts_by [] lengths = []
starts_by (layout ∷ layouts) [] = []
starts_by (layout ∷ layouts) (one ∷ lengths) = start_by layout one ∷ starts_by layouts lengths

-- What was checked, with the machine that starts over its memory, at the beginnings of the lists of its jobs.
pub record IsSetUp (version : ℕ) (checked : Checked) (accepted : Accepted) : Type 0 where
  pub version_is : accepted.version ≡ version
  pub layouts_are : accepted.layouts.items ≡ checked.layouts.items
  pub lengths_are : accepted.lengths.items ≡ checked.lengths.items
  pub machine_is : accepted.machine ≡ start_of checked.memory (starts_by checked.layouts.items checked.lengths.items)

-- What an accepted file comes to.
pub record IsAccepted (f : FileModel) (accepted : Accepted) : Type 0 where
  pub version_is : accepted.version ≡ f.version
  pub layouts_are : accepted.layouts.items ≡ layouts_of f
  pub lengths_are : accepted.lengths.items ≡ all_lengths_of f
  pub machine_is : accepted.machine ≡ machine_of f
