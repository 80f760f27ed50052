-- A client's part of what the machine keeps, and what it is for two states to be alike to a client.
use Rattle.std.specs.Prelude.{◌≡◌, ℕ, true, if◌then◌else◌, List, map, Option, Some, None, filter}
use Rattle.machine_plan.specs.Regions.{Interval, Agree}
use Rattle.qpu_machine.specs.{declared.state.Qpu.Qpu, declared.state.Request.Request, declared.state.Thread.Thread}
use Rattle.machine.specs.State.{Units, State, item_at}
use Rattle.promises.specs.Trail.{Client}

-- A client's part of a processor: each thread that carries one of its jobs, with all that is kept of it, and the requests of its jobs, in
-- order. Which thread is active is no part of it.
pub record Part : Type 0 where
  pub first : Option Thread
  pub other : Option Thread
  pub queue0 : List Request
  pub queue1 : List Request

abbrev pub thread_seen : Client → Option Thread → Option Thread
thread_seen mine None = None
thread_seen mine (Some t) = if mine t.job then Some t else None

abbrev pub requests_of : Client → List Request → List Request
requests_of mine requests = filter (λ r. mine r.job) requests

abbrev pub part_of : Client → Qpu → Part
part_of mine q = record {
  first = thread_seen mine q.first;
  other = thread_seen mine q.other;
  queue0 = requests_of mine q.queue0.items;
  queue1 = requests_of mine q.queue1.items;
}

-- The client's part of what two machines keep is the same: what their list units keep for its jobs, and its part of each processor.
pub record UnitsAlike (mine : Client) (u v : Units) : Type 0 where
  pub jobs : (j : ℕ) → mine j ≡ true → item_at u.jobs j ≡ item_at v.jobs j
  pub qpus : map (part_of mine) u.qpus ≡ map (part_of mine) v.qpus

-- Two states are alike to the client: in its part, and in the bytes of these intervals.
pub record StatesAlike (mine : Client) (all : List Interval) (s t : State) : Type 0 where
  pub units : UnitsAlike mine s.units t.units
  pub memory : Agree all s.memory t.memory
