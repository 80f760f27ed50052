-- What the jobs of a machine begin with, and what is known then of all that its units keep.
use Rattle.std.specs.Prelude.{◌≡◌, ℕ, List}
use Rattle.machine_plan.specs.{declared.launch.Launch.Launch, Regions.Interval, Regions.Rights, Regions.rights_of, Regions.HasReadOnly}
use Rattle.shader_flow.specs.Flow.{is_threaded}
use Rattle.packets.specs.declared.config.Config.{Config}
use Rattle.list_machine.specs.{declared.state.Frame.Frame, Lists.Lists}
use Rattle.qpu_machine.specs.declared.state.Thread.{Thread}
use Rattle.list_law.specs.{Binning.Allocates, Lists.ListsFine}
use Rattle.qpu_law.specs.{Asks.IsFineAsk, Home.Home, Thread.IsHome, Thread.HasSamples, Thread.Stands}
use Rattle.promises.specs.Rights.{IsOneOf}
use Rattle.machine_law.specs.Units.{Facts}

-- data buffers by job: each is one of the intervals of its job's region.
abbrev pub ArePlain : List Rights → (ℕ → List Interval) → Type 0
ArePlain rights plains = (j place size : ℕ) → IsOneOf (plains j) place size → IsOneOf (rights_of rights j).region place size

-- A shader and its stream are a home for threads of job j: they stand in each memory that has what jobs may only read as the first, in
-- the job's region, and each sample of the shader reads in one of these buffers, which are data buffers of the job.
pub record HomeFine (rights : List Rights) (plains : ℕ → List Interval) (first : List ℕ) (j : ℕ) (home : Home) (buffers : List Interval) : Type 0 where
  pub stands : (m : List ℕ) → HasReadOnly rights first m → IsHome m (rights_of rights j).region home
  pub samples : HasSamples buffers home
  pub named : (place size : ℕ) → IsOneOf buffers place size → IsOneOf (plains j) place size

-- Job j may start the program: it is a home's, by its code, its uniforms, and whether it is threaded.
pub record LaunchFine (rights : List Rights) (plains : ℕ → List Interval) (first : List ℕ) (j : ℕ) (launch : Launch) : Type 0 where
  pub home : Home
  pub buffers : List Interval
  pub fine : HomeFine rights plains first j home buffers
  pub code : launch.code ≡ home.place
  pub uniforms : launch.uniforms ≡ home.stream
  pub threaded : launch.threaded ≡ is_threaded home.code

-- The thread stands before an instruction of a home of its job.
pub record ThreadFine (rights : List Rights) (plains : ℕ → List Interval) (first : List ℕ) (t : Thread) : Type 0 where
  pub home : Home
  pub buffers : List Interval
  pub fine : HomeFine rights plains first t.job home buffers
  pub stands : Stands home t

-- All stands of what the list units of job j keep, under one configuration and one frame, and the job may write the memory of
-- its tile lists.
pub record JobFine (rights : List Rights) (plains : ℕ → List Interval) (first : List ℕ) (j : ℕ) (s : Lists) : Type 0 where
  pub config : Config
  pub frame : Frame
  pub allocates : Allocates (rights_of rights j) config
  pub lists : ListsFine (rights_of rights j) (HasReadOnly rights first) (LaunchFine rights plains first j) config frame s

-- what is known of all that the units keep, for jobs with these rights and these data buffers over this first memory
abbrev pub facts_of : List Rights → (ℕ → List Interval) → List ℕ → Facts
facts_of rights plains first = record {
  OfJob = JobFine rights plains first;
  OfLaunch = LaunchFine rights plains first;
  OfThread = ThreadFine rights plains first;
  OfAsk = λ j ask. IsFineAsk (IsOneOf (plains j)) ask;
}
