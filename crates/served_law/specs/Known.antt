-- What is known of threads, processors and jobs whose shaders wait for nothing but queued requests.
use Rattle.std.specs.Prelude.{◌≡◌, ◌≢◌, ◌≤◌, ℕ, ◌+◌, ◌||◌, Bool, true, false, List, length, Option, Some, None, IsTrue, is_some, is_none, if◌then◌else◌}
use Rattle.machine_plan.specs.{declared.launch.Launch.Launch, Regions.Interval, Regions.Every, Regions.Rights, Regions.rights_of, Regions.HasReadOnly}
use Rattle.packets.specs.{declared.config.Config.Config, declared.packet.Packet.Packet, Opcode.halt}
use Rattle.bin_list.specs.Packets.{opcode}
use Rattle.list_machine.specs.{declared.state.Frame.Frame, Lists.Lists}
use Rattle.list_law.specs.{Binning.Allocates, Lists.ListsFine}
use Rattle.qpu_machine.specs.{declared.state.Qpu.Qpu, declared.state.Thread.Thread, Qpu.queue_count}
use Rattle.machine.specs.{State.Units, State.State, Step.Event, Step.may, Step.step}
use Rattle.machine_law.specs.{Jobs.ArePlain, Laws.AreFine, Units.EachAt}
use Rattle.ends_law.specs.Left.{LaunchSo, ThreadAt, BinRest, RenderRest}
use Rattle.strict_rules.specs.Queue.{queue_of}
use Rattle.served_law.specs.Raises.{waits_in, raised_by}
use Rattle.promises.specs.Finished.{may_wait}

-- Job j may start the program: it is that of a shader that waits for nothing else.
abbrev pub LaunchServed : List Rights → (List ℕ → Type 0) → ℕ → Launch → Type 0
LaunchServed rights K j = LaunchSo (rights_of rights j) K (λ code. may_wait code ≡ false)

-- The thread stands before an instruction of such a shader, and its requests in the two queues, of which there are so many, are with
-- its results as many as the shader has outstanding there.
pub record ThreadServed (rights : List Rights) (K : List ℕ → Type 0) (queued0 queued1 : ℕ) (t : Thread) : Type 0 where
  pub there : ThreadAt (rights_of rights t.job) K (λ code. may_wait code ≡ false) t
  pub tmu0 : queued0 + length t.results0.items ≡ length (queue_of there.home.code 0 there.index)
  pub tmu1 : queued1 + length t.results1.items ≡ length (queue_of there.home.code 1 there.index)

-- where a thread of the processor runs, the active one does
abbrev pub is_led : Bool → Option Thread → Option Thread → Bool
is_led second first other = is_some (if second then other else first) || is_none (if second then first else other)

-- so it is where a thread runs; one that is idle has nothing
abbrev pub SlotServed : List Rights → (List ℕ → Type 0) → (queued0 queued1 : ℕ) → Option Thread → Type 0
SlotServed rights K queued0 queued1 None = (queued0 ≡ 0) × (queued1 ≡ 0)
SlotServed rights K queued0 queued1 (Some t) = ThreadServed rights K queued0 queued1 t

-- two threads that run both run threaded programs
abbrev pub AreBeside : Option Thread → Option Thread → Type 0
AreBeside None other = Unit {0}
AreBeside (Some t) None = Unit {0}
AreBeside (Some t) (Some o) = (t.threaded ≡ true) × (o.threaded ≡ true)

-- so it is of both threads of a processor
pub record QpuServed (rights : List Rights) (K : List ℕ → Type 0) (q : Qpu) : Type 0 where
  pub first : SlotServed rights K (queue_count false q.queue0.items) (queue_count false q.queue1.items) q.first
  pub other : SlotServed rights K (queue_count true q.queue0.items) (queue_count true q.queue1.items) q.other
  pub led : is_led q.second q.first q.other ≡ true
  pub beside : AreBeside q.first q.other

-- none of these packets ends a binner list
abbrev pub AllGo : List (List ℕ) → Type 0
AllGo packets = Every (λ packet. opcode packet ≢ halt) packets

-- Where the binner stands at a place of its list, which ends there, and the renderer at another of its own, the semaphore is raised as
-- often as the renderer still waits for it: by what is to be raised already, and by the rest of the binner's list.
pub record ListsMeet (K : List ℕ → Type 0) (place end pending semaphore there upto : ℕ) (packets : List (List ℕ)) (slots : List (Option Packet)) : Type 0 where
  pub bin : BinRest K place end packets
  pub go : AllGo packets
  pub render : RenderRest K there upto slots
  pub meets : waits_in slots ≤ semaphore + raised_by pending packets

abbrev pub JobMeets : (List ℕ → Type 0) → Lists → Type 0
JobMeets K s = (packets : List (List ℕ)) × (slots : List (Option Packet)) × ListsMeet K s.binner.place s.binner.end s.pending s.semaphore s.renderer.place s.renderer.end packets slots

-- So it is of job j, whose programs wait for nothing else.
pub record JobServed (rights : List Rights) (K : List ℕ → Type 0) (j : ℕ) (s : Lists) : Type 0 where
  pub config : Config
  pub frame : Frame
  pub allocates : Allocates (rights_of rights j) config
  pub lists : ListsFine (rights_of rights j) K (LaunchServed rights K j) config frame s
  pub meets : JobMeets K s

-- so it is of each job and each processor, of which there is one
pub record UnitsServed (rights : List Rights) (K : List ℕ → Type 0) (u : Units) : Type 0 where
  pub jobs : EachAt (JobServed rights K) 0 u.jobs
  pub qpus : Every (QpuServed rights K) u.qpus
  pub some : 1 ≤ length u.qpus

-- The law of one step: from a state of which all is known, it is known again.
abbrev pub StepsServe : Type 0
StepsServe =
    (rights : List Rights) (plains : ℕ → List Interval) (first : List ℕ) (s : State) (event : Event)
    → ArePlain rights plains → HasReadOnly rights first s.memory → AreFine rights plains first s.units
    → UnitsServed rights (HasReadOnly rights first) s.units → IsTrue (may s event)
    → UnitsServed rights (HasReadOnly rights first) (step s event).state.units
