-- The order of a processor's requests, and what is known of its threads, is watched.
use Rattle.std.proofs.Common.{◌≡◌, ◌≢◌, ℕ, ◌+◌, true, false, Bool, IsTrue, List, Option, Some, None, IfSome, if◌then◌else◌, refl, sym, ◌∙◌, ap, subst}
use Rattle.std.proofs.lemmas.Bool.{eq-eqb, ne_eqb}
use Rattle.std.specs.Prelude.{option_map}
use Rattle.std.specs.Int.{from_le_bytes, w64}
use Rattle.field_words.specs.declared.access.Actor.TheVariants.{Qpu as TheQpu}
use Rattle.machine_plan.specs.{declared.launch.Free.Free, declared.launch.Launch.Launch, declared.who.Who.Who, Glance.glance_result, Memory.bytes_at, Plan.Plan, Plan.Keeps}
use Rattle.machine_plan.specs.Regions.{Inside, Rights, rights_of, IsSafeIn, HasReadOnly}
use Rattle.machine_plan.proofs.Plans.{keeps_weaker}
use Rattle.list_machine.specs.Binner.{binner_ready, binner_plan}
use Rattle.list_machine.specs.Lists.{Lists, Turned}
use Rattle.list_machine.specs.Renderer.{renderer_ready, renderer_plan}
use Rattle.list_law.specs.Lists.{TurnedFine}
use Rattle.list_law.proofs.{Binning.binner_keeps, Rendering.renderer_keeps}
use Rattle.qpu_machine.specs.Qpu.{active_of, queue_count, ready_by, went}
use Rattle.qpu_machine.specs.{declared.state.Qpu.Qpu, declared.state.Thread.Thread, Bounds.finished0, Bounds.finished1}
use Rattle.qpu_machine.specs.Step.{ThreadTurn, thread_plan}
use Rattle.qpu_law.specs.Home.{Home}
use Rattle.machine.specs.{State.Units, State.item_at, Step.with_launch}
use Rattle.promises.specs.Days.{Files, found_in, with_files}
use Rattle.ends_law.proofs.Plans.{AnyLook, AnyAccess, Comes, weaker}
use Rattle.served_law.proofs.Beside.{IsLike, beside_both, like_same}
use Rattle.strict_law.specs.Known.{Finds, LaunchStrict, SlotStrict, QpuStrict, KeepsNone, InOrder, IsHomeOf, JobKnown}
use Rattle.strict_law.specs.Order.{Orders, order_by, order_in, order_after, orders_after, orders_kept}
use Rattle.strict_law.proofs.{Begins.idle_strict, Begins.job_known, Watch.Watch, Watch.Watches, Watch.TurnsTo}
use Rattle.strict_law.proofs.Staying.{stays_same, stays_filed}
use Rattle.strict_law.proofs.Processors.{EachStrict, thread_stays, active_strict, went_strict, served_strict, launched_strict}
use Rattle.strict_law.proofs.Threads.{ThreadGoes, thread_goes}

-- The list units of a job that began over this first memory.
turned_by : (rights : List Rights) (first : List ℕ) (j : ℕ) (s : Lists) (who : Who) (plan : Plan Turned) (m : List ℕ) → (job : JobKnown rights first j s)
    → Keeps who (Inside (rights_of rights j).region) (IsSafeIn (rights_of rights j))
    (λ k turned. TurnedFine (rights_of rights j) (HasReadOnly rights first) (LaunchStrict (IsHomeOf rights first j)) job.config job.frame turned) plan m
    → Comes who (TurnsTo (JobKnown rights first j) (LaunchStrict (IsHomeOf rights first j))) plan m
turned_by rights first j s who plan m job keeps =
    let r : Rights = rights_of rights j in
    keeps_weaker who (Inside r.region) AnyLook (IsSafeIn r) AnyAccess (λ k turned. TurnedFine r (HasReadOnly rights first) (LaunchStrict (IsHomeOf rights first j)) job.config job.frame turned)
    (λ k turned. TurnsTo (JobKnown rights first j) (LaunchStrict (IsHomeOf rights first j)) turned) (λ p n lies. tt) (λ a safe. tt)
    (λ k turned fine. (record { config = job.config; frame = job.frame; allocates = job.allocates; lists = fine.lists }, fine.launch)) plan m keeps

pub binner_one : (rights : List Rights) (first : List ℕ) (j : ℕ) (who : Who) (s : Lists) (free : Free) (words m : List ℕ) → HasReadOnly rights first m → JobKnown rights first j s → glance_result (binner_ready s free) m ≡ true
    → Comes who (TurnsTo (JobKnown rights first j) (LaunchStrict (IsHomeOf rights first j))) (binner_plan s free words) m
binner_one rights first j who s free words m has job on =
    turned_by rights first j s who (binner_plan s free words) m job
    (binner_keeps who (rights_of rights j) (HasReadOnly rights first) (LaunchStrict (IsHomeOf rights first j)) job.config job.frame s free words m job.allocates has job.lists on)

pub renderer_one : (rights : List Rights) (first : List ℕ) (j : ℕ) (who : Who) (s : Lists) (free : Free) (words m : List ℕ) → HasReadOnly rights first m → JobKnown rights first j s → glance_result (renderer_ready s) m ≡ true
    → Comes who (TurnsTo (JobKnown rights first j) (LaunchStrict (IsHomeOf rights first j))) (renderer_plan s free words) m
renderer_one rights first j who s free words m has job on =
    turned_by rights first j s who (renderer_plan s free words) m job
    (renderer_keeps who (rights_of rights j) (HasReadOnly rights first) (LaunchStrict (IsHomeOf rights first j)) job.config job.frame s free words m has job.lists on)

pub launch_wider : (A B : Home → Type 0) → ((home : Home) → A home → B home) → (launch : Launch) → LaunchStrict A launch → LaunchStrict B launch
launch_wider A B goes launch own = record { home = own.home; strict = own.strict; stands = goes own.home own.stands; code = own.code; uniforms = own.uniforms; threaded = own.threaded }

launch_strict : (IsOf : ℕ → Home → Type 0) (j : ℕ) (launch : Option Launch) (orders : Orders) (qpus : List Qpu) → IfSome launch (LaunchStrict (IsOf j)) → EachStrict IsOf orders 0 qpus → EachStrict IsOf orders 0 (with_launch j launch qpus)
launch_strict IsOf j None orders qpus known all = all
launch_strict IsOf j (Some launch) orders qpus known all = launched_strict IsOf j launch orders qpus known all

-- A step of a thread.
order_goes : (u : Units) (k : ℕ) (q : Qpu) (t : Thread) (m : List ℕ) (orders : Orders) (tmu : ℕ) → item_at u.qpus k ≡ Some q → active_of q ≡ Some t
    → orders_after u (TheQpu k) m orders k tmu ≡ order_after tmu (from_le_bytes w64 (bytes_at m t.place 8)) q.second (orders k tmu)
order_goes u k q t m orders tmu is active =
    ap (λ here. if here then order_in (item_at u.qpus k) m tmu (orders k tmu) else orders k tmu) (eq-eqb k k refl)
    ∙ ap (λ (found : Option Qpu). order_in found m tmu (orders k tmu)) is
    ∙ ap (λ (slot : Option Thread). order_by slot q.second m tmu (orders k tmu)) active

strict_thread : (IsOf : ℕ → Home → Type 0) (u : Units) (k : ℕ) (q : Qpu) (t : Thread) (words m : List ℕ) (orders : Orders) → item_at u.qpus k ≡ Some q → active_of q ≡ Some t → Finds IsOf m → QpuStrict IsOf (orders k 0) (orders k 1) q → IsTrue (glance_result (ready_by (Some t) q) m)
    → Comes (record { unit = TheQpu k; job = t.job }) (λ turn. QpuStrict IsOf (orders_after u (TheQpu k) m orders k 0) (orders_after u (TheQpu k) m orders k 1) (went q t turn)) (thread_plan t words) m
strict_thread IsOf u k q t words m orders is active here known may =
    let who : Who = record { unit = TheQpu k; job = t.job } in
    let w : ℕ = from_le_bytes w64 (bytes_at m t.place 8) in
    let queued0 : ℕ = queue_count q.second q.queue0.items in
    let queued1 : ℕ = queue_count q.second q.queue1.items in
    let old0 : ℕ = if q.second then known.other0 else known.first0 in
    let old1 : ℕ = if q.second then known.other1 else known.first1 in
    let plan : Plan ThreadTurn = thread_plan t words in
    let Next : List Bool → List Bool → ThreadTurn → Type 0 = λ order0 order1 turn. QpuStrict IsOf order0 order1 (went q t turn) in
    let thread = subst (λ (slot : Option Thread). SlotStrict IsOf queued0 queued1 old0 old1 slot) active (active_strict IsOf (orders k 0) (orders k 1) q known) in
    subst (λ one. Comes who (Next one (orders_after u (TheQpu k) m orders k 1)) plan m) (sym (order_goes u k q t m orders 0 is active))
    (subst (λ one. Comes who (Next (order_after 0 w q.second (orders k 0)) one) plan m) (sym (order_goes u k q t m orders 1 is active))
    (weaker who (ThreadGoes IsOf queued0 queued1 old0 old1 t w) (Next (order_after 0 w q.second (orders k 0)) (order_after 1 w q.second (orders k 1))) (λ turn one. went_strict IsOf q t w turn (orders k 0) (orders k 1) active known one) plan m
    (thread_goes IsOf queued0 queued1 old0 old1 t who words m here thread may)))

other_orders : (IsOf : ℕ → Home → Type 0) (u : Units) (k : ℕ) (m : List ℕ) (orders : Orders) (i : ℕ) (q : Qpu) → i ≢ k → QpuStrict IsOf (orders i 0) (orders i 1) q → QpuStrict IsOf (orders_after u (TheQpu k) m orders i 0) (orders_after u (TheQpu k) m orders i 1) q
other_orders IsOf u k m orders i q other was =
    subst (λ here. QpuStrict IsOf (if here then order_in (item_at u.qpus k) m 0 (orders i 0) else orders i 0) (if here then order_in (item_at u.qpus k) m 1 (orders i 1) else orders i 1) q) (sym (ne_eqb i k other)) was

-- What is known of a processor stays known, where it does of each job that has a thread there.
slot_goes : (IsHere IsThere : ℕ → Home → Type 0) (N : ℕ → Type 0) → ((j : ℕ) (home : Home) → N j → IsHere j home → IsThere j home) → (queued0 queued1 old0 old1 : ℕ) (slot : Option Thread) → IfSome slot (λ t. N t.job)
    → SlotStrict IsHere queued0 queued1 old0 old1 slot → SlotStrict IsThere queued0 queued1 old0 old1 slot
slot_goes IsHere IsThere N goes queued0 queued1 old0 old1 None only left = left
slot_goes IsHere IsThere N goes queued0 queued1 old0 old1 (Some t) only left =
    thread_stays IsHere IsThere queued0 queued1 queued0 queued1 old0 old1 t t (stays_same t) (λ home stands. goes t.job home only stands) refl refl left

qpu_goes : (IsHere IsThere : ℕ → Home → Type 0) (N : ℕ → Type 0) → ((j : ℕ) (home : Home) → N j → IsHere j home → IsThere j home) → (order0 order1 : List Bool) (q : Qpu) → IfSome q.first (λ t. N t.job) → IfSome q.other (λ t. N t.job)
    → QpuStrict IsHere order0 order1 q → QpuStrict IsThere order0 order1 q
qpu_goes IsHere IsThere N goes order0 order1 q first other left = record {
  first0 = left.first0;
  first1 = left.first1;
  other0 = left.other0;
  other1 = left.other1;
  first = slot_goes IsHere IsThere N goes (queue_count false q.queue0.items) (queue_count false q.queue1.items) left.first0 left.first1 q.first first left.first;
  other = slot_goes IsHere IsThere N goes (queue_count true q.queue0.items) (queue_count true q.queue1.items) left.other0 left.other1 q.other other left.other;
  beside = left.beside;
  rests = left.rests;
  in0 = left.in0;
  in1 = left.in1;
}

-- A program finds what the last one left in the files.
slot_found : (IsHere : ℕ → Home → Type 0) (files : Files) (queued0 queued1 old0 old1 : ℕ) (slot : Option Thread) → SlotStrict IsHere queued0 queued1 old0 old1 slot → SlotStrict IsHere queued0 queued1 old0 old1 (option_map (with_files files) slot)
slot_found IsHere files queued0 queued1 old0 old1 None left = left
slot_found IsHere files queued0 queued1 old0 old1 (Some t) left =
    thread_stays IsHere IsHere queued0 queued1 queued0 queued1 old0 old1 t (with_files files t) (stays_filed files t) (λ home stands. stands) refl refl left

like_found : (files : Files) (slot : Option Thread) → IsLike (option_map (with_files files) slot) slot
like_found files None = tt
like_found files (Some t) = refl

has_found : (files : Files) (slot : Option Thread) → (finished0 slot ≡ finished0 (option_map (with_files files) slot)) × (finished1 slot ≡ finished1 (option_map (with_files files) slot))
has_found files None = (refl, refl)
has_found files (Some t) = (refl, refl)

slot_rests : (files : Files) (slot : Option Thread) → IfSome slot KeepsNone → IfSome (option_map (with_files files) slot) KeepsNone
slot_rests files None none = none
slot_rests files (Some t) none = none

rests_found : (second active : Bool) (files : Files) (first other : Option Thread) → IfSome (if active then first else other) KeepsNone
    → IfSome (if active then (if second then first else option_map (with_files files) first) else (if second then option_map (with_files files) other else other)) KeepsNone
rests_found true true files first other none = none
rests_found true false files first other none = slot_rests files other none
rests_found false true files first other none = slot_rests files first none
rests_found false false files first other none = none

qpu_found : (IsHere : ℕ → Home → Type 0) (second : Bool) (files : Files) (q : Qpu) (order0 order1 : List Bool) → QpuStrict IsHere order0 order1 q → QpuStrict IsHere order0 order1 (found_in second files q)
qpu_found IsHere true files q order0 order1 left =
    let has = has_found files q.other in
    record {
      first0 = left.first0;
      first1 = left.first1;
      other0 = left.other0;
      other1 = left.other1;
      first = left.first;
      other = slot_found IsHere files (queue_count true q.queue0.items) (queue_count true q.queue1.items) left.other0 left.other1 q.other left.other;
      beside = beside_both q.first q.other q.first (option_map (with_files files) q.other) (like_same q.first) (like_found files q.other) left.beside;
      rests = rests_found true q.second files q.first q.other left.rests;
      in0 = subst (λ n. InOrder q.second order0 left.first0 (queue_count false q.queue0.items + finished0 q.first) left.other0 (queue_count true q.queue0.items + n)) has.0 left.in0;
      in1 = subst (λ n. InOrder q.second order1 left.first1 (queue_count false q.queue1.items + finished1 q.first) left.other1 (queue_count true q.queue1.items + n)) has.1 left.in1;
    }
qpu_found IsHere false files q order0 order1 left =
    let has = has_found files q.first in
    record {
      first0 = left.first0;
      first1 = left.first1;
      other0 = left.other0;
      other1 = left.other1;
      first = slot_found IsHere files (queue_count false q.queue0.items) (queue_count false q.queue1.items) left.first0 left.first1 q.first left.first;
      other = left.other;
      beside = beside_both q.first q.other (option_map (with_files files) q.first) q.other (like_found files q.first) (like_same q.other) left.beside;
      rests = rests_found false q.second files q.first q.other left.rests;
      in0 = subst (λ n. InOrder q.second order0 left.first0 (queue_count false q.queue0.items + n) left.other0 (queue_count true q.queue0.items + finished0 q.other)) has.0 left.in0;
      in1 = subst (λ n. InOrder q.second order1 left.first1 (queue_count false q.queue1.items + n) left.other1 (queue_count true q.queue1.items + finished1 q.other)) has.1 left.in1;
    }

-- The order of requests is watched.
abbrev pub orders_watch : Watch
orders_watch = record {
  Kept = Orders;
  keeping = orders_kept;
  OfJob = JobKnown;
  Binned = LaunchStrict;
  Rendered = λ words. LaunchStrict;
  OfQpu = λ IsOf orders k q. QpuStrict IsOf (orders k 0) (orders k 1) q;
}

pub orders_watched : Watches orders_watch
orders_watched = record {
  begins = job_known;
  binner = binner_one;
  renderer = renderer_one;
  wider_binned = launch_wider;
  wider_rendered = λ words. launch_wider;
  binned = λ IsOf u words m orders j launch started qpus. launch_strict IsOf j launch orders u.qpus started qpus;
  rendered = λ IsOf u words m orders j launch started qpus. launch_strict IsOf j launch orders u.qpus started qpus;
  thread = strict_thread;
  others = λ IsOf u k words m orders i q other was. other_orders IsOf u k m orders i q other was;
  texture = λ u k tmu words m orders. refl;
  served = λ IsOf orders k tmu q request row left is. served_strict IsOf tmu q request row (orders k 0) (orders k 1) left is;
  moves = λ IsHere IsThere N goes orders k q first other left. qpu_goes IsHere IsThere N goes (orders k 0) (orders k 1) q first other left;
  found = λ IsOf second files orders k q left. qpu_found IsOf second files q (orders k 0) (orders k 1) left;
  admitted = λ j orders. refl;
  idle = λ IsOf orders k. idle_strict IsOf;
}
