-- A client, the accesses of its jobs, and its trail of a run: one entry for each step that a unit takes for one of its jobs, in order.
use Rattle.std.specs.Prelude.{ℕ, Bool, List, filter, false, if◌then◌else◌, [], ◌∷◌, Option, Some, None}
use Rattle.field_words.specs.declared.access.Actor.TheVariants.{Binner as TheBinner, Renderer as TheRenderer, Qpu as TheQpu, Tmu as TheTmu}
use Rattle.field_words.specs.{declared.access.Access.Access, declared.access.Actor.Actor}
use Rattle.machine_plan.specs.Others.{Happening, Steps, Changes, happen}
use Rattle.machine_plan.specs.{declared.launch.Launch.Launch, declared.launch.Slot.Slot, Plan.outcome_of, Runs.Moved}
use Rattle.list_machine.specs.Lists.{Lists, Turned, binner_of, renderer_of}
use Rattle.list_machine.specs.{Binner.binner_plan, Renderer.renderer_plan}
use Rattle.qpu_machine.specs.{declared.state.Qpu.Qpu, Qpu.slot_from, Qpu.free_in}
use Rattle.machine.specs.State.{State, Picked, item_at, binner_job, renderer_job}
use Rattle.machine.specs.Step.{Event, job_of, step, turn}

-- which job numbers are a client's
abbrev pub Client : Type 0
Client = ℕ → Bool

-- the accesses that carry a job of the client, in order
abbrev pub accesses_of : Client → List Access → List Access
accesses_of mine found = filter (λ a. mine a.job) found

-- A step as a client may know it: the unit, the thread that was active where the unit is a processor, the words that answered, and
-- where the step started a program: in which thread of which processor. It is None where no program was to start, and where none could.
pub record Entry : Type 0 where
  pub unit : Actor
  pub second : Bool
  pub words : List ℕ
  pub starts : Option Slot

-- the active thread is the second one
abbrev pub is_second : Option Qpu → Bool
is_second None = false
is_second (Some q) = q.second

abbrev pub active_in : State → Actor → Bool
active_in s TheBinner = false
active_in s TheRenderer = false
active_in s (TheQpu k) = is_second (item_at s.units.qpus k)
active_in s (TheTmu k n) = false

-- where a program starts, if one is to start
abbrev pub slot_for : Option Launch → List Qpu → Option Slot
slot_for None qpus = None
slot_for (Some launch) qpus = slot_from launch.threaded 0 qpus

abbrev pub launch_in : Option Turned → Option Launch
launch_in None = None
launch_in (Some turned) = turned.launch

abbrev pub binner_starts : State → Option (Picked Lists) → List ℕ → Option Slot
binner_starts s None words = None
binner_starts s (Some b) words =
    slot_for (launch_in (outcome_of (binner_of b.number) (binner_plan b.item (free_in s.units.qpus) words) s.memory).result) s.units.qpus

abbrev pub renderer_starts : State → Option (Picked Lists) → List ℕ → Option Slot
renderer_starts s None words = None
renderer_starts s (Some r) words =
    slot_for (launch_in (outcome_of (renderer_of r.number) (renderer_plan r.item (free_in s.units.qpus) words) s.memory).result) s.units.qpus

-- list units alone start programs
abbrev pub starts_in : State → Actor → List ℕ → Option Slot
starts_in s TheBinner words = binner_starts s (binner_job s.units) words
starts_in s TheRenderer words = renderer_starts s (renderer_job s.units) words
starts_in s (TheQpu k) words = None
starts_in s (TheTmu k n) words = None

abbrev pub entry_of : State → Event → Entry
entry_of s event = record {
  unit = event.unit;
  second = active_in s event.unit;
  words = event.words;
  starts = starts_in s event.unit event.words;
}

-- the step's entry, where it is for a job of the client
abbrev pub own_entry : Client → State → Event → Option Entry
own_entry mine s event = if mine (job_of s event.unit) then Some (entry_of s event) else None

-- others who write leave no entry
abbrev pub happening_entry : Client → State → Happening Event → Option Entry
happening_entry mine s (Steps event) = own_entry mine s event
happening_entry mine s (Changes m) = None

abbrev pub with_entry : {X : Type 0} → Option X → List X → List X
with_entry None entries = entries
with_entry (Some entry) entries = entry ∷ entries

-- the entries of all steps, in order
abbrev pub entries_of : {S E X : Type 0} → (S → E → Option X) → (S → E → Moved S) → S → List E → List X
entries_of entry move s [] = []
entries_of entry move s (event ∷ events) = with_entry (entry s event) (entries_of entry move (move s event).state events)

-- the client's trail of a run from s over these events
abbrev pub trail_of : Client → State → List Event → List Entry
trail_of mine s events = entries_of (own_entry mine) step s events

-- the client's trail of a run in which others write too
abbrev pub trail_among : Client → State → List (Happening Event) → List Entry
trail_among mine s happenings = entries_of (happening_entry mine) (happen turn) s happenings
