-- What is known of each processor in every run: its requests are of the jobs whose threads run in their slots, and a thread that
-- rests is fresh.
use Rattle.std.specs.Prelude.{◌≡◌, true, IfSome, List}
use Rattle.machine_plan.specs.Regions.{Every}
use Rattle.qpu_machine.specs.{declared.state.Qpu.Qpu, declared.state.Request.Request, Qpu.resting_of, Qpu.slot_of}

-- The request is of the job of the thread that asked, or that thread has ended and none runs there.
abbrev pub IsTied : Qpu → Request → Type 0
IsTied q request = IfSome (slot_of q request.second) (λ t. t.job ≡ request.job)

pub record QpuTied (q : Qpu) : Type 0 where
  pub queue0 : Every (IsTied q) q.queue0.items
  pub queue1 : Every (IsTied q) q.queue1.items

abbrev pub AreTied : List Qpu → Type 0
AreTied qpus = Every QpuTied qpus

-- the thread that isn't active is fresh, where one runs
abbrev pub RestsFresh : Qpu → Type 0
RestsFresh q = IfSome (resting_of q) (λ t. t.fresh ≡ true)
