-- What is known of threads, processors and jobs whose shaders break no strict rule.
use Rattle.std.specs.Prelude.{◌≡◌, ℕ, ◌+◌, ◌-◌, Bool, true, false, not, nat_lt, List, ◌++◌, length, replicate, Option, Some, None, IfSome}
use Rattle.machine_plan.specs.declared.launch.Launch.{Launch}
use Rattle.machine_plan.specs.Regions.{Every, Interval, Rights, rights_of, HasReadOnly}
use Rattle.packets.specs.declared.config.Config.{Config}
use Rattle.shader_flow.specs.Flow.{is_threaded}
use Rattle.strict_rules.specs.{declared.state.Request.Request, Queue.queue_of, Queue.last_act}
use Rattle.list_machine.specs.{declared.state.Frame.Frame, Lists.Lists}
use Rattle.list_law.specs.{Binning.Allocates, Lists.ListsFine}
use Rattle.qpu_machine.specs.{declared.state.Qpu.Qpu, declared.state.Thread.Thread, Bounds.finished0, Bounds.finished1, Qpu.queue_count, Qpu.resting_of}
use Rattle.qpu_machine.specs.declared.state.Fate.{Fate, TheVariants.Ends, TheVariants.Switches, TheVariants.GoesOn}
use Rattle.qpu_law.specs.{Home.Home, Home.IsAt, Home.ArePending, Thread.IsHome}
use Rattle.served_law.specs.Known.{AreBeside}
use Rattle.strict_law.specs.Strict.{IsStrict}

-- The shader stands in this memory.
pub record LiesIn (m : List ℕ) (home : Home) : Type 0 where
  pub region : List Interval
  pub is : IsHome m region home

-- IsOf says of a job's number and a shader that its programs may run for the job: then it stands in this memory.
abbrev pub Finds : (ℕ → Home → Type 0) → List ℕ → Type 0
Finds IsOf m = (j : ℕ) (home : Home) → IsOf j home → LiesIn m home

-- The program is that of a strict shader of which this is known.
pub record LaunchStrict (IsOwn : Home → Type 0) (launch : Launch) : Type 0 where
  pub home : Home
  pub strict : IsStrict home.code
  pub stands : IsOwn home
  pub code : launch.code ≡ home.place
  pub uniforms : launch.uniforms ≡ home.stream
  pub threaded : launch.threaded ≡ is_threaded home.code

-- The oldest requests of a queue, so many, were sent before an instruction, and the others weren't.
pub record IsSplit (before : ℕ) (queue : List Request) (old : ℕ) : Type 0 where
  pub older : List Request
  pub newer : List Request
  pub is : queue ≡ older ++ newer
  pub count : length older ≡ old
  pub early : Every (λ r. nat_lt r.sent before ≡ true) older
  pub late : Every (λ r. nat_lt r.sent before ≡ false) newer

-- The thread stands before an instruction of such a shader, with the set-up words that its rules count. Its requests in the two queues,
-- of which there are so many, are with its results as many as the shader has outstanding there. So many of them are from before the last
-- switch acted.
pub record ThreadStrict (IsOf : ℕ → Home → Type 0) (queued0 queued1 old0 old1 : ℕ) (t : Thread) : Type 0 where
  pub home : Home
  pub strict : IsStrict home.code
  pub stands : IsOf t.job home
  pub index : ℕ
  pub at : IsAt home index t
  pub pending : ArePending home.code index t
  pub tmu0 : queued0 + length t.results0.items ≡ length (queue_of home.code 0 index)
  pub tmu1 : queued1 + length t.results1.items ≡ length (queue_of home.code 1 index)
  pub split0 : IsSplit (last_act home.code index) (queue_of home.code 0 index) old0
  pub split1 : IsSplit (last_act home.code index) (queue_of home.code 1 index) old1

-- How many these are after an instruction, of all: each, where the thread switches, and none, where it ends.
abbrev pub next_old : Fate → ℕ → ℕ → ℕ
next_old GoesOn old all = old
next_old Switches old all = all
next_old Ends old all = 0

-- so it is where a thread runs; one that is idle has nothing
abbrev pub SlotStrict : (ℕ → Home → Type 0) → (queued0 queued1 old0 old1 : ℕ) → Option Thread → Type 0
SlotStrict IsOf queued0 queued1 old0 old1 None = (queued0 ≡ 0) × (queued1 ≡ 0) × (old0 ≡ 0) × (old1 ≡ 0)
SlotStrict IsOf queued0 queued1 old0 old1 (Some t) = ThreadStrict IsOf queued0 queued1 old0 old1 t

-- The requests that a processor has sent to a TMU and not loaded: first those of the active thread from before it last became active, then
-- those of the one that rests, of which all are from before it does again, then the active thread's others.
pub record Ordered (second : Bool) (order : List Bool) (old all rest_old rest_all : ℕ) : Type 0 where
  pub is : order ≡ replicate old second ++ (replicate rest_all (not second) ++ replicate (all - old) second)
  pub rests : rest_old ≡ rest_all

-- by the first thread's and the other one's
abbrev pub InOrder : Bool → List Bool → (first_old first_all other_old other_all : ℕ) → Type 0
InOrder true order first_old first_all other_old other_all = Ordered true order other_old other_all first_old first_all
InOrder false order first_old first_all other_old other_all = Ordered false order first_old first_all other_old other_all

-- no TMU keeps set-up words of the thread
abbrev pub KeepsNone : Thread → Type 0
KeepsNone t = (length t.setups0.items ≡ 0) × (length t.setups1.items ≡ 0)

pub record QpuStrict (IsOf : ℕ → Home → Type 0) (order0 order1 : List Bool) (q : Qpu) : Type 0 where
  pub first0 : ℕ
  pub first1 : ℕ
  pub other0 : ℕ
  pub other1 : ℕ
  pub first : SlotStrict IsOf (queue_count false q.queue0.items) (queue_count false q.queue1.items) first0 first1 q.first
  pub other : SlotStrict IsOf (queue_count true q.queue0.items) (queue_count true q.queue1.items) other0 other1 q.other
  pub beside : AreBeside q.first q.other
  pub rests : IfSome (resting_of q) KeepsNone
  pub in0 : InOrder q.second order0 first0 (queue_count false q.queue0.items + finished0 q.first) other0 (queue_count true q.queue0.items + finished0 q.other)
  pub in1 : InOrder q.second order1 first1 (queue_count false q.queue1.items + finished1 q.first) other1 (queue_count true q.queue1.items + finished1 q.other)

-- Of jobs that begin over a first memory: the shader stands in each memory that has what they may only read, in the job's region.
abbrev pub IsHomeOf : List Rights → List ℕ → ℕ → Home → Type 0
IsHomeOf rights first j home = (m : List ℕ) → HasReadOnly rights first m → IsHome m (rights_of rights j).region home

-- the programs that job j may start are strict
pub record JobKnown (rights : List Rights) (first : List ℕ) (j : ℕ) (s : Lists) : Type 0 where
  pub config : Config
  pub frame : Frame
  pub allocates : Allocates (rights_of rights j) config
  pub lists : ListsFine (rights_of rights j) (HasReadOnly rights first) (LaunchStrict (IsHomeOf rights first j)) config frame s
