-- What it is for jobs to be safe where nobody else writes, and to depend on nothing but what they hold.
use Rattle.std.specs.Prelude.{ℕ, List}
use Rattle.machine_plan.specs.{Regions.Rights, Regions.regions_joined, World.Safe, World.Same}
use Rattle.machine.specs.{declared.job.Start.Start, State.units_start, Step.ready, Step.turn}

-- The jobs are safe over this memory: so it is of every run in which nobody else writes.
abbrev pub AreSafe : List Rights → List ℕ → List Start → Type 0
AreSafe jobs memory starts = Safe ready turn jobs memory (units_start starts)

-- The jobs do the same over every memory of this length that agrees with this one on their regions:
-- each run is one over that memory too, with the same events and the same accesses; at its end the
-- two memories agree on the regions, and each is as it began outside what the jobs may write.
abbrev pub AreSame : List Rights → List ℕ → List Start → Type 0
AreSame jobs memory starts = Same ready turn jobs (regions_joined jobs) memory (units_start starts)
