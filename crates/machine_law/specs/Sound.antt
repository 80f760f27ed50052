-- The law of the whole machine: what jobs with such beginnings are, while others may write all but what jobs may only read.
use Rattle.std.specs.Prelude.{ℕ, List}
use Rattle.machine_plan.specs.World.{Safe, Same}
use Rattle.machine_plan.specs.Regions.{Interval, Rights, regions_joined, HasReadOnly}
use Rattle.machine.specs.{declared.job.Start.Start, State.Units, State.units_start}
use Rattle.machine.specs.Step.{ready, turn}
use Rattle.machine_law.specs.{Units.EachAt, Jobs.ArePlain, Laws.AreFine, Begins.JobBegins}
use Rattle.promises.specs.Sound.{Sound}

-- The machine of any jobs is sound from units of which all is known, over each memory that has what jobs may only read as the first.
abbrev pub MachineSound : Type 0
MachineSound =
    (rights : List Rights) (plains : ℕ → List Interval) (first m : List ℕ) (u : Units) → ArePlain rights plains → HasReadOnly rights first m
    → AreFine rights plains first u → Sound rights plains m u

-- So it is from the start, by what each job begins with.
abbrev pub JobsSound : Type 0
JobsSound =
    (rights : List Rights) (plains : ℕ → List Interval) (first m : List ℕ) (starts : List Start) → ArePlain rights plains → HasReadOnly rights first m
    → EachAt (JobBegins rights plains first) 0 starts → Sound rights plains m (units_start starts)

-- Where jobs are sound, every run in which nobody else writes is safe, and bytes outside the jobs' regions have no effect on it.
abbrev pub SoundJobsAreSafe : Type 0
SoundJobsAreSafe =
    (rights : List Rights) (plains : ℕ → List Interval) (m : List ℕ) (u : Units) → Sound rights plains m u
    → Safe ready turn rights m u × Same ready turn rights (regions_joined rights) m u
