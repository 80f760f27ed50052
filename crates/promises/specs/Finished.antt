-- Jobs whose programs wait for no request that isn't there: a run that can't go on has finished, or waits for room in its tile slot.
use Rattle.std.specs.Prelude.{ℕ, Bool, List, ◌≡◌, ◌≤◌, ◌⊎◌, ◌+◌, true, false, nat_lt, length, Some, Option, None}
use Rattle.std.specs.List.{list_all}
use Rattle.field_words.specs.{declared.access.Access.Access, declared.access.Actor.Actor}
use Rattle.shader_flow.specs.{Bounded.some_below, Flow.checked_of}
use Rattle.job_format.specs.Model.{FileModel}
use Rattle.job_check.specs.{Jobs.job_of, Emit.memory_of}
use Rattle.machine_plan.specs.{Others.Happening, Others.OthersRun, Regions.Every, Regions.Rights, Regions.Agree}
use Rattle.list_machine.specs.{declared.state.Work.Work, Lists.Lists, Binner.item_may}
use Rattle.qpu_machine.specs.{declared.state.Qpu.Qpu, Bounds.finished0, Bounds.finished1, Qpu.is_idle}
use Rattle.machine.specs.State.{Units, State, Picked, binner_job, units_start}
use Rattle.machine.specs.Step.{Event, ready, turn, is_enabled, is_finished}
use Rattle.promises.specs.{Bounded.shader_named, Holdings.fixed_of, Holdings.file_rights, Holdings.file_starts}
use Rattle.strict_rules.specs.Rules.{waits_at}

-- A program of the shader may wait for a request that isn't there, or for room. Where none may, each load finds a request, and a processor
-- has room for what the program sends: 8 slots and the results of 4 requests, or half of it where the shader switches threads. It leaves
-- nothing at its end. Where ways meet nothing is outstanding, so each TMU has as many requests and results before an instruction on every
-- way there.
unfoldable pub may_wait : List ℕ → Bool
may_wait code = some_below (checked_of code) (λ i. waits_at code i)

-- A primitive is in work of which all vertices and programs are done, and the tile lists have no room for a further item.
pub record WaitsForRoom (s : Lists) : Type 0 where
  pub work : Work
  pub is : s.binner.work ≡ Some work
  pub started : work.due ≡ false
  pub fetched : nat_lt work.done work.primitive.length ≡ false
  pub full : item_may s s.binner.kept.config ≡ false

-- The binner's job waits so, and all processors and their TMUs are idle.
pub record UnitsWait (u : Units) : Type 0 where
  pub one : Picked Lists
  pub is : binner_job u ≡ Some one
  pub waits : WaitsForRoom one.item
  pub idle : list_all is_idle u.qpus ≡ true

-- How many requests and results a processor has that no load has taken, of both TMUs and both threads.
unfoldable pub count_unloaded : Qpu → ℕ
count_unloaded q =
    (length q.queue0.items + length q.queue1.items) + ((finished0 q.first + finished1 q.first) + (finished0 q.other + finished1 q.other))

-- no unit may step
abbrev pub IsStill : State → Type 0
IsStill s = (unit : Actor) → is_enabled s unit ≡ false

-- Each run from these units over this memory, whichever unit steps next, whatever words answer it, and also while others write: where
-- it has come to a state in which no unit may step, all is finished, or the binner's job waits for room. In each state a processor has at
-- most the four requests that the hardware has room for.
pub record Finishes (rights : List Rights) (memory : List ℕ) (start : Units) : Type 0 where
  pub every_run : (happenings : List (Happening Event)) (found : List Access) (t : State)
      → OthersRun ready turn rights (record { memory = memory; units = start }) happenings found t
      → IsStill t → (is_finished t ≡ true) ⊎ UnitsWait t.units
  pub room : (happenings : List (Happening Event)) (found : List Access) (t : State)
      → OthersRun ready turn rights (record { memory = memory; units = start }) happenings found t
      → Every (λ q. count_unloaded q ≤ 4) t.units.qpus

-- one of the shader does
abbrev pub waits : Option (List ℕ) → Bool
waits None = false
waits (Some code) = may_wait code

-- one of a shader that a handle of job j names does; and of some job
unfoldable pub job_waits : FileModel → ℕ → Bool
job_waits f j = some_below (length (job_of f j).handles) (λ i. waits (shader_named f j i))

unfoldable pub file_waits : FileModel → Bool
file_waits f = some_below (length f.jobs) (λ j. job_waits f j)

-- Where no program may wait so: from each memory of the emitted one's length that has the emitted lists and the code of all
-- jobs as the emitted one, also while others write all else, a run that has come to where no unit may step has finished, or the
-- binner's job waits for room.
abbrev pub FileFinishes : FileModel → Type 0
FileFinishes f = file_waits f ≡ false → (m : List ℕ) → Agree (fixed_of f) (memory_of f) m → Finishes (file_rights f) m (units_start (file_starts f))
