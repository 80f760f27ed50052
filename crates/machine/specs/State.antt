-- The machine's state: memory, what the list units keep for each job, and the shader processors.
use Rattle.std.specs.Prelude.{◌≡◌, ◌≤◌, ℕ, ◌+◌, Bool, if◌then◌else◌, List, [], ◌∷◌, length, map, replicate, slice_index_or, Option, None, Some}
pub use Rattle.std.specs.Prelude.{slice_get as item_at, slice_set as put_at}
use Rattle.machine_plan.specs.World.{World}
use Rattle.list_machine.specs.{Binner.has_binner_work, Lists.Lists, Lists.lists_start, Renderer.has_renderer_work}
use Rattle.qpu_machine.specs.{declared.state.Qpu.Qpu, Bounds.AreBounded, Qpu.idle_qpu}
use Rattle.machine.specs.declared.job.Start.{Start}

-- All that the machine keeps beside memory: for each job what its list units keep, and the processors,
-- each with its two threads and the queues of its two TMUs.
pub record Units : Type 0 where
  pub jobs : List Lists
  pub qpus : List Qpu

abbrev pub State : Type 0
State = World Units

abbrev pub job_start : Start → Lists
job_start start = lists_start start.bin_place start.bin_len start.render_place start.render_len

-- the units at the start: each job's stand at the beginnings of its lists, all twelve processors are
-- idle, and all else is empty or zero
abbrev pub units_start : List Start → Units
units_start starts = record { jobs = map job_start starts; qpus = replicate 12 idle_qpu }

-- the state in which the units are at their start
abbrev pub start_of : List ℕ → List Start → State
start_of memory starts = record { memory = memory; units = units_start starts }

-- an item with its number in a list
pub record Picked (X : Type 0) : Type 0 where
  pub number : ℕ
  pub item : X

-- the first item of which the test is true, where the list is numbered from n on
abbrev pub first_where : {X : Type 0} → (X → Bool) → ℕ → List X → Option (Picked X)
first_where p n [] = None
first_where p n (x ∷ xs) = if p x then Some (record { number = n; item = x }) else first_where p (n + 1) xs

-- The binner's job is the least one with work left for the binner, the renderer's the least one with
-- work left for the renderer.
abbrev pub binner_job : Units → Option (Picked Lists)
binner_job u = first_where has_binner_work 0 u.jobs

abbrev pub renderer_job : Units → Option (Picked Lists)
renderer_job u = first_where has_renderer_work 0 u.jobs

-- a job without lists
abbrev pub no_job : Lists
no_job = lists_start 0 0 0 0

-- job k with its number
abbrev pub picked_in : List Lists → ℕ → Picked Lists
picked_in jobs k = record { number = k; item = slice_index_or jobs k no_job }

-- one to eight jobs, and twelve processors whose queues have room
pub record AreWhole (jobs : List Lists) (qpus : List Qpu) : Type 0 where
  pub some : 1 ≤ length jobs
  pub few : length jobs ≤ 8
  pub twelve : length qpus ≡ 12
  pub bounded : AreBounded qpus

abbrev pub job_at : List Lists → ℕ → Lists
job_at jobs k = slice_index_or jobs k no_job
