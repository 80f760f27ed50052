-- A machine whose jobs come and go: what may happen in it, and what comes of that.
--
-- Jobs are numbered as they are admitted, and no number is given twice. A job is live from then on until it retires, which it may where it
-- has no work left. Only live jobs have rights.
use Rattle.std.specs.Prelude.{◌≡◌, ◌≢◌, ℕ, Bool, false, IsTrue, if◌then◌else◌, List, [], ◌∷◌, ◌++◌, length, map, replicate, slice_index_or, Option}
use Rattle.std.specs.Prelude.{Some, None, IfSome, option_map}
use Rattle.machine_plan.specs.Regions.{Interval, Inside, Every, Rights, HasReadOnly, IsSafeAccess, IsKept, Agree, regions_joined}
use Rattle.machine_plan.specs.{declared.launch.Launch.Launch, Runs.Moved}
use Rattle.list_machine.specs.{Binner.has_binner_work, Lists.binner_ended, Lists.renderer_ended, Renderer.has_renderer_work}
use Rattle.qpu_machine.specs.{declared.state.Qpu.Qpu, declared.state.Thread.Thread, Qpu.idle_qpu, Qpu.slot_of, Start.thread_of}
use Rattle.machine.specs.Step.{Event, may, step, with_qpu}
use Rattle.machine.specs.State.{State, Units, item_at, put_at, job_at, job_start, start_of}
use Rattle.machine.specs.declared.job.Start.{Start}
use Rattle.promises.specs.Sound.{TexturesReadIn}

-- A job that is to be admitted: where its lists begin, what it may reach and write, and its data buffers.
pub record Job : Type 0 where
  pub start : Start
  pub rights : Rights
  pub plain : List Interval

-- A job that was admitted: its rights and data buffers, and the memory as it was then.
pub record Admitted : Type 0 where
  pub rights : Rights
  pub plain : List Interval
  pub first : List ℕ

abbrev pub no_rights : Rights
no_rights = record { region = []; writable = [] }

-- once it has retired, it has neither rights nor data buffers
abbrev pub job_retired : Admitted → Admitted
job_retired one = record one { rights = no_rights; plain = [] }

-- the machine's state, and all jobs that were admitted, by their numbers
pub record Day : Type 0 where
  pub state : State
  pub jobs : List Admitted

-- the job of a number; where there is none, one without rights
abbrev pub admitted_at : List Admitted → ℕ → Admitted
admitted_at jobs j = slice_index_or jobs j (record { rights = no_rights; plain = []; first = [] })

-- the rights of all jobs, of which those that retired have none, and the data buffers of each
abbrev pub rights_in : List Admitted → List Rights
rights_in jobs = map (λ one. one.rights) jobs

abbrev pub plains_in : List Admitted → ℕ → List Interval
plains_in jobs j = (admitted_at jobs j).plain

-- a job with these rights may reach this byte, and not write it
pub record OnlyReads (one : Rights) (p : ℕ) : Type 0 where
  pub reaches : Inside one.region p 1
  pub leaves : Inside one.writable p 1 → ⊥

-- what the other may only read, the one may not write
abbrev pub Spares : Rights → Rights → Type 0
Spares one other = (p : ℕ) → OnlyReads other p → Inside one.writable p 1 → ⊥

-- no thread of the processor and no request in its queues is of job j
pub record HasNoneOf (j : ℕ) (q : Qpu) : Type 0 where
  pub first : IfSome q.first (λ t. t.job ≢ j)
  pub other : IfSome q.other (λ t. t.job ≢ j)
  pub queue0 : Every (λ request. request.job ≢ j) q.queue0.items
  pub queue1 : Every (λ request. request.job ≢ j) q.queue1.items

-- job j has no work left in any unit
pub record HasNoWork (u : Units) (j : ℕ) : Type 0 where
  pub binner : has_binner_work (job_at u.jobs j) ≡ false
  pub renderer : has_renderer_work (job_at u.jobs j) ≡ false
  pub qpus : Every (HasNoneOf j) u.qpus

-- the registers of the two files, as the last program of a thread left them
pub record Files : Type 0 where
  pub a : List (List ℕ)
  pub b : List (List ℕ)

-- What happens next. A unit steps; somebody else leaves this memory; the program that was just started in a thread (the second one, or not)
-- of processor k finds these registers; a job is admitted; job j retires; or the chip is reset.
pub data Happening : Type 0 where
  Steps : Event → Happening
  Changes : List ℕ → Happening
  Finds : (k : ℕ) (second : Bool) → Files → Happening
  Admits : Job → Happening
  Retires : (j : ℕ) → Happening
  Resets : Happening

-- the thread is as some program starts
pub record IsStart (t : Thread) : Type 0 where
  pub launch : Launch
  pub is : t ≡ thread_of t.job launch

-- where a program runs there, it has just been started, and each file has 32 registers
pub record MayFind (u : Units) (k : ℕ) (second : Bool) (files : Files) : Type 0 where
  pub started : IfSome (item_at u.qpus k) (λ q. IfSome (slot_of q second) IsStart)
  pub a : length files.a ≡ 32
  pub b : length files.b ≡ 32

-- A unit steps where it may. Others change any bytes, to anything, but those that some live job may reach and none may write. A job is
-- admitted where `May` says so.
abbrev pub MayHappenBy : (May : Day → Job → Type 0) → Day → Happening → Type 0
MayHappenBy May d (Steps event) = IsTrue (may d.state event)
MayHappenBy May d (Changes m) = HasReadOnly (rights_in d.jobs) d.state.memory m
MayHappenBy May d (Finds k second files) = MayFind d.state.units k second files
MayHappenBy May d (Admits job) = May d job
MayHappenBy May d (Retires j) = HasNoWork d.state.units j
MayHappenBy May d Resets = Unit {0}

abbrev pub with_files : Files → Thread → Thread
with_files files t = record t { a = files.a; b = files.b }

abbrev pub found_in : Bool → Files → Qpu → Qpu
found_in second files q = record q {
  first = if second then q.first else option_map (with_files files) q.first;
  other = if second then option_map (with_files files) q.other else q.other;
}

abbrev pub found_at : Units → ℕ → Bool → Files → Option Qpu → Units
found_at u k second files None = u
found_at u k second files (Some q) = with_qpu u k (found_in second files q)

-- one job more, whose list units stand at the beginnings of its lists
abbrev pub joined_by : Units → Job → Units
joined_by u job = record { jobs = u.jobs ++ job_start job.start ∷ []; qpus = u.qpus }

-- both list units of each job are at their lists' ends, and all processors are idle
abbrev pub units_stopped : Units → Units
units_stopped u = record { jobs = map (λ s. binner_ended (renderer_ended s)) u.jobs; qpus = replicate 12 idle_qpu }

abbrev pub with_units : Day → Units → Day
with_units d u = record { state = record { memory = d.state.memory; units = u }; jobs = d.jobs }

-- what it comes to
abbrev pub happen : Day → Happening → Day
happen d (Steps event) = record { state = (step d.state event).state; jobs = d.jobs }
happen d (Changes m) = record { state = record { memory = m; units = d.state.units }; jobs = d.jobs }
happen d (Finds k second files) = with_units d (found_at d.state.units k second files (item_at d.state.units.qpus k))
happen d (Admits job) = record {
  state = record { memory = d.state.memory; units = joined_by d.state.units job };
  jobs = d.jobs ++ (record { rights = job.rights; plain = job.plain; first = d.state.memory }) ∷ [];
}
happen d (Retires j) = record { state = d.state; jobs = put_at d.jobs j (job_retired (admitted_at d.jobs j)) }
happen d Resets = with_units d (units_stopped d.state.units)

-- what they all come to
abbrev pub after : Day → List Happening → Day
after d [] = d
after d (one ∷ later) = after (happen d one) later

-- an idle machine over this memory, before its first job
abbrev pub dawn : List ℕ → Day
dawn memory = record { state = start_of memory []; jobs = [] }

-- A step is safe: so is each access, by the rights of the live job that it carries; and every byte that no live job may write is as before.
pub record IsSafeStep (d : Day) (moved : Moved State) : Type 0 where
  pub accesses : Every (IsSafeAccess (rights_in d.jobs)) moved.accesses
  pub kept : IsKept (rights_in d.jobs) d.state.memory moved.state.memory

-- Over another memory that agrees where live jobs may reach, the unit may step too, and does the same.
pub record IsDoneAlike (d : Day) (other : State) (event : Event) : Type 0 where
  pub may_step : IsTrue (may other event)
  pub accesses : (step other event).accesses ≡ (step d.state event).accesses
  pub units : (step other event).state.units ≡ (step d.state event).state.units
  pub memory : Agree (regions_joined (rights_in d.jobs)) (step d.state event).state.memory (step other event).state.memory

-- Whichever unit may step now, its step is safe, and bytes outside the live jobs' regions have no effect on it; texture units read in one
-- data buffer of a live job; and what a live job may only read is as it was when the job was admitted.
pub record IsSafeDay (d : Day) : Type 0 where
  pub steps : (event : Event) → IsTrue (may d.state event) → IsSafeStep d (step d.state event)
  pub same : (event : Event) (other : List ℕ) → Agree (regions_joined (rights_in d.jobs)) d.state.memory other → IsTrue (may d.state event)
      → IsDoneAlike d (record { memory = other; units = d.state.units }) event
  pub textures : TexturesReadIn (plains_in d.jobs) d.state
  pub kept : Every (λ one. HasReadOnly (one.rights ∷ []) one.first d.state.memory) d.jobs
