-- The law: where no unit may step, the jobs have finished, or one waits for room in its tile lists.
use Rattle.std.specs.Prelude.{◌≡◌, ◌≤◌, ℕ, false, List}
use Rattle.machine_plan.specs.Regions.{Interval, Rights, HasReadOnly}
use Rattle.bin_walks.specs.Walks.{nothing_kept, Walks}
use Rattle.machine.specs.{declared.job.Start.Start, State.units_start}
use Rattle.machine_law.specs.{Begins.DrawBegins, Begins.JobBegins, Jobs.ArePlain, Units.EachAt}
use Rattle.served_law.specs.Raises.{waits_in, raised_by}
use Rattle.promises.specs.Finished.{Finishes, may_wait}

-- the primitive may be drawn, and the shaders of its three programs wait for nothing but queued requests
pub record DrawServed (rights : List Rights) (plains : ℕ → List Interval) (first : List ℕ) (j word : ℕ) (packet : List ℕ) : Type 0 where
  pub begins : DrawBegins rights plains first j word packet
  pub fragment : may_wait begins.fragment.home.code ≡ false
  pub vertex : may_wait begins.vertex.home.code ≡ false
  pub coordinate : may_wait begins.coordinate.home.code ≡ false

-- Job j begins with a binner list that raises the semaphore as often as the renderer's waits for it.
pub record JobMayFinish (rights : List Rights) (plains : ℕ → List Interval) (first : List ℕ) (j : ℕ) (start : Start) : Type 0 where
  pub begins : JobBegins rights plains first j start
  pub served : Walks begins.config (DrawServed rights plains first j) nothing_kept begins.packets
  pub raised : waits_in begins.slots ≤ raised_by 0 begins.packets

-- So it is for any jobs, over each memory that has what jobs may only read as the first.
abbrev pub JobsFinish : Type 0
JobsFinish =
    (rights : List Rights) (plains : ℕ → List Interval) (first m : List ℕ) (starts : List Start)
    → ArePlain rights plains → HasReadOnly rights first m
    → EachAt (JobMayFinish rights plains first) 0 starts → Finishes rights m (units_start starts)
