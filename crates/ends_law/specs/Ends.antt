-- The law: a run of jobs without loops has no more steps than their lists and programs say, beside those in which the renderer stays.
use Rattle.std.specs.Prelude.{◌≤◌, ℕ, List}
use Rattle.machine_plan.specs.Regions.{Interval, Rights, HasReadOnly}
use Rattle.bin_walks.specs.Walks.{nothing_kept, Walks}
use Rattle.machine.specs.{declared.job.Start.Start, State.units_start}
use Rattle.machine_law.specs.{Begins.DrawBegins, Begins.JobBegins, Jobs.ArePlain}
use Rattle.ends_law.specs.{Left.EachWithin, Loops.IsShort}
use Rattle.promises.specs.{Bounded.Ends, Steps.job_steps}

-- the primitive may be drawn, and the shaders of its three programs are short
pub record DrawShort (rights : List Rights) (plains : ℕ → List Interval) (first : List ℕ) (w j word : ℕ) (packet : List ℕ) : Type 0 where
  pub begins : DrawBegins rights plains first j word packet
  pub fragment : IsShort w begins.fragment.home.code
  pub vertex : IsShort w begins.vertex.home.code
  pub coordinate : IsShort w begins.coordinate.home.code

-- Job j begins so with two lists that take at most n steps.
pub record JobShort (rights : List Rights) (plains : ℕ → List Interval) (first : List ℕ) (w j n : ℕ) (start : Start) : Type 0 where
  pub begins : JobBegins rights plains first j start
  pub short : Walks begins.config (DrawShort rights plains first w j) nothing_kept begins.packets
  pub within : job_steps w begins.packets begins.slots ≤ n

-- So it is for any jobs that together have n, each its share, over each memory that has what jobs may only read as the first.
abbrev pub JobsEnd : Type 0
JobsEnd =
    (rights : List Rights) (plains : ℕ → List Interval) (first m : List ℕ) (starts : List Start) (w n : ℕ)
    → ArePlain rights plains → HasReadOnly rights first m
    → EachWithin (JobShort rights plains first w) 0 n starts → Ends rights m (units_start starts) w n
