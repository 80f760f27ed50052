-- Which unit may step, for which job, and what a step does. Each unit is one line of `unit_ready`, one
-- of `unit_turn` and one of `unit_job`.
use Rattle.std.specs.Prelude.{ℕ, ◌+◌, Bool, false, ◌&&◌, nat_lt, is_none, if◌then◌else◌, List, Option, Some, None}
use Rattle.std.specs.List.{list_all}
use Rattle.field_words.specs.declared.access.Actor.TheVariants.{Binner as TheBinner, Renderer as TheRenderer, Qpu as TheQpu, Tmu as TheTmu}
use Rattle.field_words.specs.{declared.access.Access.Access, declared.access.Actor.Actor}
use Rattle.machine_plan.specs.{declared.launch.Launch.Launch, Plan.Done, Glance.Glance, Glance.Now, Glance.glance_result, Runs.Moved, Runs.Run, World.plan_mapped, World.Turn, World.world_may, World.world_step}
use Rattle.list_machine.specs.Lists.{Lists, Turned, quiet, binner_of, renderer_of, binner_ended, renderer_ended}
use Rattle.list_machine.specs.{Binner.binner_ready, Binner.binner_plan, Renderer.renderer_ready, Renderer.renderer_plan}
use Rattle.qpu_machine.specs.Qpu.{active_of, job_of_thread, qpu_ready, qpu_plan, qpu_stopped, queue_of, oldest, job_of_request, tmu_ready, tmu_plan, after_drop, after_launch, free_in, is_idle}
use Rattle.qpu_machine.specs.declared.state.Qpu.{Qpu}
use Rattle.machine.specs.State.{Units, State, Picked, item_at, put_at, binner_job, renderer_job}

-- a unit steps, and these words answer what the hardware leaves open
pub record Event : Type 0 where
  pub unit : Actor
  pub words : List ℕ

-- A program that a list unit starts for job j begins in the first thread that can take it.
abbrev pub with_launch : ℕ → Option Launch → List Qpu → List Qpu
with_launch j None qpus = qpus
with_launch j (Some launch) qpus = after_launch j launch qpus

-- a list unit has come to this for job j
abbrev pub with_lists : Units → ℕ → Turned → Units
with_lists u j turned = record { jobs = put_at u.jobs j turned.lists; qpus = with_launch j turned.launch u.qpus }

-- processor k has come to this
abbrev pub with_qpu : Units → ℕ → Qpu → Units
with_qpu u k q = record { jobs = u.jobs; qpus = put_at u.qpus k q }

-- The binner is held where the renderer has a job and the binner's is more than one ahead of it.
abbrev pub is_ahead : ℕ → Option (Picked Lists) → Bool
is_ahead n None = false
is_ahead n (Some r) = nat_lt (r.number + 1) n

-- a list unit may step where it has a job, and is ready for it; the binner, unless it is held
abbrev pub binner_may : Units → Option (Picked Lists) → Glance Bool
binner_may u None = Now false
binner_may u (Some b) = if is_ahead b.number (renderer_job u) then Now false else binner_ready b.item (free_in u.qpus)

abbrev pub renderer_may : Option (Picked Lists) → Glance Bool
renderer_may None = Now false
renderer_may (Some r) = renderer_ready r.item

-- there are twelve processors, numbered from 0, with TMUs 0 and 1 each
abbrev pub qpu_may : Option Qpu → Glance Bool
qpu_may None = Now false
qpu_may (Some q) = qpu_ready q

abbrev pub tmu_may : Option Qpu → ℕ → Glance Bool
tmu_may None n = Now false
tmu_may (Some q) n = if nat_lt n 2 then tmu_ready q n else Now false

-- a unit that has no work does nothing
abbrev pub no_turn : Units → Actor → Turn Units
no_turn u unit = record { who = record { unit = unit; job = 0 }; plan = Done u; wild = u }

-- the turns of the units, each for the job that it steps for
abbrev pub binner_turn : Units → Option (Picked Lists) → List ℕ → Turn Units
binner_turn u None words = no_turn u TheBinner
binner_turn u (Some b) words = record {
  who = binner_of b.number;
  plan = plan_mapped (with_lists u b.number) (binner_plan b.item (free_in u.qpus) words);
  wild = with_lists u b.number (quiet (binner_ended b.item));
}

abbrev pub renderer_turn : Units → Option (Picked Lists) → List ℕ → Turn Units
renderer_turn u None words = no_turn u TheRenderer
renderer_turn u (Some r) words = record {
  who = renderer_of r.number;
  plan = plan_mapped (with_lists u r.number) (renderer_plan r.item (free_in u.qpus) words);
  wild = with_lists u r.number (quiet (renderer_ended r.item));
}

abbrev pub qpu_turn : Units → ℕ → Option Qpu → List ℕ → Turn Units
qpu_turn u k None words = no_turn u (TheQpu k)
qpu_turn u k (Some q) words = record {
  who = record { unit = TheQpu k; job = job_of_thread (active_of q) };
  plan = plan_mapped (with_qpu u k) (qpu_plan q words);
  wild = with_qpu u k (qpu_stopped q);
}

abbrev pub tmu_turn : Units → ℕ → ℕ → Option Qpu → List ℕ → Turn Units
tmu_turn u k n None words = no_turn u (TheTmu k n)
tmu_turn u k n (Some q) words = record {
  who = record { unit = TheTmu k n; job = job_of_request (oldest (queue_of q n)) };
  plan = plan_mapped (with_qpu u k) (tmu_plan q n words);
  wild = with_qpu u k (after_drop q n);
}

-- whether a unit may step
abbrev pub unit_ready : Units → Actor → Glance Bool
unit_ready u TheBinner = binner_may u (binner_job u)
unit_ready u TheRenderer = renderer_may (renderer_job u)
unit_ready u (TheQpu k) = qpu_may (item_at u.qpus k)
unit_ready u (TheTmu k n) = tmu_may (item_at u.qpus k) n

-- what a unit would do
abbrev pub unit_turn : Units → Actor → List ℕ → Turn Units
unit_turn u TheBinner words = binner_turn u (binner_job u) words
unit_turn u TheRenderer words = renderer_turn u (renderer_job u) words
unit_turn u (TheQpu k) words = qpu_turn u k (item_at u.qpus k) words
unit_turn u (TheTmu k n) words = tmu_turn u k n (item_at u.qpus k) words

-- the number, or 0 for a unit without a job
abbrev pub number_or_zero : Option (Picked Lists) → ℕ
number_or_zero None = 0
number_or_zero (Some one) = one.number

abbrev pub qpu_job : Option Qpu → ℕ
qpu_job None = 0
qpu_job (Some q) = job_of_thread (active_of q)

abbrev pub tmu_job : Option Qpu → ℕ → ℕ
tmu_job None n = 0
tmu_job (Some q) n = job_of_request (oldest (queue_of q n))

-- the job for which a unit steps: the binner's or the renderer's, the active thread's, the oldest
-- request's
abbrev pub unit_job : Units → Actor → ℕ
unit_job u TheBinner = number_or_zero (binner_job u)
unit_job u TheRenderer = number_or_zero (renderer_job u)
unit_job u (TheQpu k) = qpu_job (item_at u.qpus k)
unit_job u (TheTmu k n) = tmu_job (item_at u.qpus k) n

unfoldable pub ready : Units → Event → Glance Bool
ready u event = unit_ready u event.unit

unfoldable pub turn : Units → Event → Turn Units
turn u event = unit_turn u event.unit event.words

-- a unit may step
unfoldable pub is_enabled : State → Actor → Bool
is_enabled s unit = glance_result (unit_ready s.units unit) s.memory

-- no job is the binner's or the renderer's, all threads are idle and all queues are empty
unfoldable pub is_finished : State → Bool
is_finished s = (is_none (binner_job s.units) && is_none (renderer_job s.units)) && list_all is_idle s.units.qpus

unfoldable pub job_of : State → Actor → ℕ
job_of s unit = unit_job s.units unit

-- an event may happen where its unit may step
abbrev pub may : State → Event → Bool
may = world_may ready

-- the step of an event
abbrev pub step : State → Event → Moved State
step = world_step turn

-- a run of the machine
abbrev pub IsRun : State → List Event → List Access → State → Type 0
IsRun s events found t = Run may step s events found t
