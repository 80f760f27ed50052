-- What a processor's numbers keep to, so that its queues have room.
use Rattle.std.specs.Prelude.{◌≡◌, ◌≤◌, ◌<◌, ℕ, ◌+◌, ◌^◌, Bool, false, true, List, length, slice_index_or, Option, None, Some, IfSome}
use Rattle.arrayvec.specs.ArrayVec.{ArrayVec}
use Rattle.machine_plan.specs.Turn.{CarriesOver}
use Rattle.qpu_machine.specs.{State.Access, State.Leaves, State.Qpu, State.Request, State.Thread, State.Who, Qpu.queue_count, Qpu.idle_qpu, Step.thread_plan, Step.turn_taken}

-- a thread's next instruction is no further than this
abbrev pub IsNear : Option Thread → Type 0
IsNear slot = IfSome slot (λ t. t.place < 2 ^ 62)

-- how many finished results of a TMU a thread has
abbrev pub finished0 : Option Thread → ℕ
finished0 None = 0
finished0 (Some t) = length t.results0.items

abbrev pub finished1 : Option Thread → ℕ
finished1 None = 0
finished1 (Some t) = length t.results1.items

-- a thread has at most eight requests and results in each TMU
pub record IsFew (second : Bool) (slot : Option Thread) (queue0 queue1 : List Request) : Type 0 where
  pub tmu0 : queue_count second queue0 + finished0 slot ≤ 8
  pub tmu1 : queue_count second queue1 + finished1 slot ≤ 8

pub record IsBounded (q : Qpu) : Type 0 where
  pub first_near : IsNear q.first
  pub other_near : IsNear q.other
  pub first_few : IsFew false q.first q.queue0.items q.queue1.items
  pub other_few : IsFew true q.other q.queue0.items q.queue1.items

abbrev pub AreBounded : List Qpu → Type 0
AreBounded qpus = (k : ℕ) → k < length qpus → IsBounded (slice_index_or qpus k idle_qpu)

-- what an instruction of the thread in this slot has come to: the thread, and what it leaves
pub record SlotSteps (who : Who) (words m : List ℕ) (before listed : ArrayVec Access) (slot : Option Thread) (result : Option Leaves) (t : Thread) : Type 0 where
  pub next : Thread
  pub is : slot ≡ Some next
  pub shows : CarriesOver who (thread_plan t words) m before listed (turn_taken next result)
  pub near : IfSome result (λ leaves. next.place ≤ 2 ^ 34)
